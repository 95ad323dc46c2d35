-- The named types of partitions.
use Rattle.std.specs.Prelude.{ℕ, List, [], ◌∷◌, Option, codes, find}
use Rattle.std.specs.Int.{to_be_bytes, w128}
use Rattle.std.specs.Option.{option_map}
use Rattle.std.specs.Str.{bytes_eq}
use Rattle.gptguid_core.specs.Forms.{disk_order}

-- Each name, and the text of its GUID without hyphens as a number of 128 bits.
unfoldable pub types : List (List ℕ × ℕ)
types =
    (codes "efi", 0xC12A7328F81F11D2BA4B00A0C93EC93B) ∷
    (codes "esp", 0xC12A7328F81F11D2BA4B00A0C93EC93B) ∷
    (codes "uefi", 0xC12A7328F81F11D2BA4B00A0C93EC93B) ∷
    (codes "bios-boot", 0x2168614864496E6F744E656564454649) ∷
    (codes "linux", 0x0FC63DAF848347728E793D69D8477DE4) ∷
    (codes "linux-boot", 0xBC13C2FF59E64262A352B275FD6F7172) ∷
    (codes "linux-swap", 0x0657FD6DA4AB43C484E50933C84B4F4F) ∷
    (codes "swap", 0x0657FD6DA4AB43C484E50933C84B4F4F) ∷
    (codes "linux-home", 0x933AC7E12EB44F13B8440E14E2AEF915) ∷
    (codes "home", 0x933AC7E12EB44F13B8440E14E2AEF915) ∷
    (codes "linux-srv", 0x3B8F842520E04F3B907F1A25A76F98E8) ∷
    (codes "linux-var", 0x4D21B016B53445C2A9FB5C16E091FD2D) ∷
    (codes "linux-tmp", 0x7EC6F5573BC54ACAB29316EF5DF639D1) ∷
    (codes "linux-lvm", 0xE6D6D379F50744C2A23C238F2A3DF928) ∷
    (codes "linux-raid", 0xA19D880F05FC4D3BA006743F0F84911E) ∷
    (codes "linux-luks", 0xCA7D7CCB63ED4C53861C1742536059CC) ∷
    (codes "linux-root-alpha", 0x6523F8AE3EB14E2AA05A18B695AE656F) ∷
    (codes "linux-root-arc", 0xD27F46ED29194CB8BD259531F3C16534) ∷
    (codes "linux-root-arm", 0x69DAD7102CE44E3CB16C21A1D49ABED3) ∷
    (codes "linux-root-arm64", 0xB921B0451DF041C3AF444C6F280D3FAE) ∷
    (codes "linux-root-ia64", 0x993D8D3DF80E4225855A9DAF8ED7EA97) ∷
    (codes "linux-root-loongarch64", 0x77055800792C4F94B39A98C91B762BB6) ∷
    (codes "linux-root-mips-le", 0x37C58C8AD9134156A25F48B1B64E07F0) ∷
    (codes "linux-root-mips64-le", 0x700BDA437A344507B179EEB93D7A7CA3) ∷
    (codes "linux-root-ppc", 0x1DE3F1EFFA9847B58DCD4A860A654D78) ∷
    (codes "linux-root-ppc64", 0x912ADE1DA83949138964A10EEE08FBD2) ∷
    (codes "linux-root-ppc64-le", 0xC31C45E63F39412E80FB4809C4980599) ∷
    (codes "linux-root-riscv32", 0x60D5A7FE8E7D435CB7143DD8162144E1) ∷
    (codes "linux-root-riscv64", 0x72EC70A6CF7440E6BD494BDA08E8F224) ∷
    (codes "linux-root-s390", 0x08A7ACEA624C4A2091E86E0FA67D23F9) ∷
    (codes "linux-root-s390x", 0x5EEAD9A9FE094A1EA1D7520D00531306) ∷
    (codes "linux-root-tilegx", 0xC50CDD7038624CC390E1809A8C93EE2C) ∷
    (codes "linux-root-x86", 0x44479540F29741B29AF7D131D5F0458A) ∷
    (codes "linux-root-x86-64", 0x4F68BCE3E8CD4DB196E7FBCAF984B709) ∷
    (codes "linux-root-mips", 0xE94345446E2C47CCBAE212D6DEAFB44C) ∷
    (codes "linux-root-mips64", 0xD113AF7680EF41B4BDB60CFF4D3D4A25) ∷
    (codes "linux-root-parisc", 0x1AACDB3B54444138BD9EE5C2239B2346) ∷
    (codes "linux-usr-x86", 0x75250D768CC6458EBD66BD47CC81A812) ∷
    (codes "linux-usr-x86-64", 0x8484680C952148C69C11B0720656F69E) ∷
    (codes "linux-usr-alpha", 0xE18CF08C33EC4C0D8246C6C6FB3DA024) ∷
    (codes "linux-usr-arc", 0x7978A68363164922BBEE38BFF5A2FECC) ∷
    (codes "linux-usr-arm", 0x7D0359A302B34F0A865C654403E70625) ∷
    (codes "linux-usr-arm64", 0xB0E01050EE5F4390949A9101B17104E9) ∷
    (codes "linux-usr-ia64", 0x4301D2A64E3B4B2ABB949E0B2C4225EA) ∷
    (codes "linux-usr-loongarch64", 0xE611C702575C4CBE9A46434FA0BF7E3F) ∷
    (codes "linux-usr-mips-le", 0x0F4868E999524706979F3ED3A473E947) ∷
    (codes "linux-usr-mips64-le", 0xC97C1F32BA0640B49F22236061B08AA8) ∷
    (codes "linux-usr-ppc", 0x7D14FEC5CC71415D9D6C06BF0B3C3EAF) ∷
    (codes "linux-usr-ppc64", 0x2C9739E2F06846B39FD001C5A9AFBCCA) ∷
    (codes "linux-usr-ppc64-le", 0x15BB03AF77E74D4AB12BC0D084F7491C) ∷
    (codes "linux-usr-riscv32", 0xB933FB225C3F4F91AF90E2BB0FA50702) ∷
    (codes "linux-usr-riscv64", 0xBEAEC34B8442439BA40B984381ED097D) ∷
    (codes "linux-usr-s390", 0xCD0F869BD0FB4CA0B1419EA87CC78D66) ∷
    (codes "linux-usr-s390x", 0x8A4F577050AA4ED3874A99B710DB6FEA) ∷
    (codes "linux-usr-tilegx", 0x55497029C7C144CCAA39815ED1558630) ∷
    (codes "linux-usr-mips", 0x773B2ABC2A9943988BF503BAAC40D02B) ∷
    (codes "linux-usr-mips64", 0x57E13958733143658E6E35EEEE17C61B) ∷
    (codes "linux-usr-parisc", 0xDC4A448069174262A4ECDB9384949F25) ∷
    (codes "linux-root-x86-verity", 0xD13C5D3BB5D1422AB29F9454FDC89D76) ∷
    (codes "linux-root-x86-64-verity", 0x2C7357EDEBD246D9AEC123D437EC2BF5) ∷
    (codes "linux-root-alpha-verity", 0xFC56D9E9E6E54C06BE32E74407CE09A5) ∷
    (codes "linux-root-arc-verity", 0x24B2D9750F974521AFA1CD531E421B8D) ∷
    (codes "linux-root-arm-verity", 0x7386CDF2203C47A9A498F2ECCE45A2D6) ∷
    (codes "linux-root-arm64-verity", 0xDF3300CED69F4C92978C9BFB0F38D820) ∷
    (codes "linux-root-ia64-verity", 0x86ED10D5B60745BB8957D350F23D0571) ∷
    (codes "linux-root-loongarch64-verity", 0xF3393B22E9AF4613A9489D3BFBD0C535) ∷
    (codes "linux-root-mips-le-verity", 0xD7D150D22A044A338F1216651205FF7B) ∷
    (codes "linux-root-mips64-le-verity", 0x16B417F83E064F578DD29B5232F41AA6) ∷
    (codes "linux-root-ppc-verity", 0x98CFE649158846DCB2F0ADD147424925) ∷
    (codes "linux-root-ppc64-verity", 0x9225A9A33C194D89B4F6EEFF88F17631) ∷
    (codes "linux-root-ppc64-le-verity", 0x906BD94445894AAEA4E4DD983917446A) ∷
    (codes "linux-root-riscv32-verity", 0xAE0253BE11674007AC6843926C14C5DE) ∷
    (codes "linux-root-riscv64-verity", 0xB6ED5582440B4209B8DA5FF7C419EA3D) ∷
    (codes "linux-root-s390-verity", 0x7AC63B47B25C463B8DF8B4A94E6C90E1) ∷
    (codes "linux-root-s390x-verity", 0xB325BFBEC7BE4AB88357139E652D2F6B) ∷
    (codes "linux-root-tilegx-verity", 0x966061EC28E44B2EB4A51F0A825A1D84) ∷
    (codes "linux-root-mips-verity", 0x7A430799F7114C7E8E5B1D685BD48607) ∷
    (codes "linux-root-mips64-verity", 0x579536F86A334055A95ADF2D5E2C42A8) ∷
    (codes "linux-root-parisc-verity", 0xD212A430FBC549F9A983A7FEEF2B8D0E) ∷
    (codes "linux-usr-x86-verity", 0x8F461B0D14EE4E819AA9049B6FB97ABD) ∷
    (codes "linux-usr-x86-64-verity", 0x77FF5F63E7B64633ACF41565B864C0E6) ∷
    (codes "linux-usr-alpha-verity", 0x8CCE0D25C0D04A44BD8746331BF1DF67) ∷
    (codes "linux-usr-arc-verity", 0xFCA0598CD88045918C164EDA05C7347C) ∷
    (codes "linux-usr-arm-verity", 0xC215D7517BCD4649BE906627490A4C05) ∷
    (codes "linux-usr-arm64-verity", 0x6E11A4E7FBCA4DEDB9E9E1A512BB664E) ∷
    (codes "linux-usr-ia64-verity", 0x6A491E033BE745458E3883320E0EA880) ∷
    (codes "linux-usr-loongarch64-verity", 0xF46B2C2659AE48F09106C50ED47F673D) ∷
    (codes "linux-usr-mips-le-verity", 0x46B98D8DB55C4E8FAAB337FCA7F80752) ∷
    (codes "linux-usr-mips64-le-verity", 0x3C3D61FEB5F3414DBB718739A694A4EF) ∷
    (codes "linux-usr-ppc-verity", 0xDF765D00270E49E5BC75F47BB2118B09) ∷
    (codes "linux-usr-ppc64-verity", 0xBDB528A5A259475FA87DDA53FA736A07) ∷
    (codes "linux-usr-ppc64-le-verity", 0xEE2B998321E8415386D9B6901A54D1CE) ∷
    (codes "linux-usr-riscv32-verity", 0xCB1EE4E38CD04136A0A4AA61A32E8730) ∷
    (codes "linux-usr-riscv64-verity", 0x8F1056BE9B0547C481D6BE53128E5B54) ∷
    (codes "linux-usr-s390-verity", 0xB663C618E7BC4D6D90AA11B756BB1797) ∷
    (codes "linux-usr-s390x-verity", 0x31741CC41A2A4111A581E00B447D2D06) ∷
    (codes "linux-usr-tilegx-verity", 0x2FB4BF5607FA42DA81326B139F2026AE) ∷
    (codes "linux-usr-mips-verity", 0x6E5A1BC8D22349B7BCA837A5FCCEB996) ∷
    (codes "linux-usr-mips64-verity", 0x81CF9D9074584DF48DCFC8A3A404F09B) ∷
    (codes "linux-usr-parisc-verity", 0x5843D618EC3748D79F12CEA8E08768B2) ∷
    (codes "linux-root-x86-verity-sig", 0x5996FC05109C48DE808B23FA0830B676) ∷
    (codes "linux-root-x86-64-verity-sig", 0x41092B059FC84523994F2DEF0408B176) ∷
    (codes "linux-root-alpha-verity-sig", 0xD46495B7A053414F80F7700C99921EF8) ∷
    (codes "linux-root-arc-verity-sig", 0x143A70BACBD34F06919F6C05683A78BC) ∷
    (codes "linux-root-arm-verity-sig", 0x42B0455FEB11491D98D356145BA9D037) ∷
    (codes "linux-root-arm64-verity-sig", 0x6DB69DE629F44758A7A5962190F00CE3) ∷
    (codes "linux-root-ia64-verity-sig", 0xE98B36EE32BA48829B120CE14655F46A) ∷
    (codes "linux-root-loongarch64-verity-sig", 0x5AFB67EBECC84F85AE8EAC1E7C50E7D0) ∷
    (codes "linux-root-mips-le-verity-sig", 0xC919CC1F44564EFF918CF75E94525CA5) ∷
    (codes "linux-root-mips64-le-verity-sig", 0x904E58EF5C654A319C576AF5FC7C5DE7) ∷
    (codes "linux-root-ppc-verity-sig", 0x1B31B5AAADD9463AB2EDBD467FC857E7) ∷
    (codes "linux-root-ppc64-verity-sig", 0xF5E2C20C45B24FFABCE92A60737E1AAF) ∷
    (codes "linux-root-ppc64-le-verity-sig", 0xD4A236E7E8734C07BF1DBF6CF7F1C3C6) ∷
    (codes "linux-root-riscv32-verity-sig", 0x3A112A7587294380B4CF764D79934448) ∷
    (codes "linux-root-riscv64-verity-sig", 0xEFE0F087EA8D4469821A4C2A96A8386A) ∷
    (codes "linux-root-s390-verity-sig", 0x3482388E4254435AA241766A065F9960) ∷
    (codes "linux-root-s390x-verity-sig", 0xC80187A573A3491A901A017C3FA953E9) ∷
    (codes "linux-root-tilegx-verity-sig", 0xB367143997B04A5390F72D5A8F3AD47B) ∷
    (codes "linux-root-mips-verity-sig", 0xBBA210A29C5D45EE9E87FF2CCBD002D0) ∷
    (codes "linux-root-mips64-verity-sig", 0x43CE94D40F3D49998250B9DEAFD98E6E) ∷
    (codes "linux-root-parisc-verity-sig", 0x15DE617065D3431C916EB0DCD8393F25) ∷
    (codes "linux-usr-x86-verity-sig", 0x974A71C0DE4143C3BE5D5C5CCD1AD2C0) ∷
    (codes "linux-usr-x86-64-verity-sig", 0xE7BB33FB06CF4E818273E543B413E2E2) ∷
    (codes "linux-usr-alpha-verity-sig", 0x5C6E1C76076A457AA0FEF3B4CD21CE6E) ∷
    (codes "linux-usr-arc-verity-sig", 0x94F9A9A19971427AA40050CB297F0F35) ∷
    (codes "linux-usr-arm-verity-sig", 0xD7FF812F37D14902A810D76BA57B975A) ∷
    (codes "linux-usr-arm64-verity-sig", 0xC23CE4FF44BD4B00B2D4B41B3419E02A) ∷
    (codes "linux-usr-ia64-verity-sig", 0x8DE58BC22A43460DB14EA76E4A17B47F) ∷
    (codes "linux-usr-loongarch64-verity-sig", 0xB024F315D330444C846144BBDE524E99) ∷
    (codes "linux-usr-mips-le-verity-sig", 0x3E23CA0BA4BC4B4E80875AB6A26AA8A9) ∷
    (codes "linux-usr-mips64-le-verity-sig", 0xF2C2C7EEADCC4351B5C6EE9816B66E16) ∷
    (codes "linux-usr-ppc-verity-sig", 0x7007891DD3714A8086A45CB875B9302E) ∷
    (codes "linux-usr-ppc64-verity-sig", 0x0B888863D7F84D9E9766239FCE4D58AF) ∷
    (codes "linux-usr-ppc64-le-verity-sig", 0xC8BFBD1E268E45218BBABF314C399557) ∷
    (codes "linux-usr-riscv32-verity-sig", 0xC3836A13313745BAB583B16C50FE5EB4) ∷
    (codes "linux-usr-riscv64-verity-sig", 0xD2F9000A7A18453FB5CD4D32F77A7B32) ∷
    (codes "linux-usr-s390-verity-sig", 0x17440E4FA8D0467FA46E3912AE6EF2C5) ∷
    (codes "linux-usr-s390x-verity-sig", 0x3F324816667B46AE86EE9B0C0C6C11B4) ∷
    (codes "linux-usr-tilegx-verity-sig", 0x4EDE75E26CCC4CC8B9C770334B087510) ∷
    (codes "linux-usr-mips-verity-sig", 0x97AE158DF216497B8057F7F905770F54) ∷
    (codes "linux-usr-mips64-verity-sig", 0x05816CE2DD404AC6A61D37D32DC1BA7D) ∷
    (codes "linux-usr-parisc-verity-sig", 0x450DD7D1322445EC9CF2A43A346D71EE) ∷
    (codes "microsoft-data", 0xEBD0A0A2B9E5443387C068B6B72699C7) ∷
    (codes "microsoft-reserved", 0xE3C9E3160B5C4DB8817DF92DF00215AE) ∷
    (codes "microsoft-recovery", 0xDE94BBA406D14D40A16ABFD50179D6AC) ∷
    (codes "apple-hfs", 0x48465300000011AAAA1100306543ECAC) ∷
    (codes "apple-apfs", 0x7C3457EF000011AAAA1100306543ECAC) ∷
    (codes "mbr", 0x024DEE4133E711D39D690008C781F39F) ∷
    (codes "intel-fast-flash", 0xD3BFE2DE3DAF11DFBA40E3A556D89593) ∷
    (codes "sony-boot", 0xF4019732066E4E128273346C5641494F) ∷
    (codes "lenovo-boot", 0xBFBFAFE7A34F448A9A5B6213EB736C22) ∷
    (codes "prep-boot", 0x9E1A2D38C6124316AA268B49521E5A8B) ∷
    (codes "onie-boot", 0x7412F7D5A1564B1381DC867174929325) ∷
    (codes "onie-config", 0xD4E6E2CD446946F3B5CB1BFF57AFC149) ∷
    (codes "microsoft-ldm-metadata", 0x5808C8AA7E8F42E085D2E1E90434CFB3) ∷
    (codes "microsoft-ldm-data", 0xAF9B60A014314F62BC683311714A69AD) ∷
    (codes "ibm-general-parallel-fs", 0x37AFFC90EF7D4E9691C32D7AE055B174) ∷
    (codes "microsoft-storage-spaces", 0xE75CAF8FF6804CEEAFA3B001E56EFC2D) ∷
    (codes "hp-ux-data", 0x75894C1E3AEB11D3B7C17B03A0000000) ∷
    (codes "hp-ux-service", 0xE2A1E72832E311D6A6827B03A0000000) ∷
    (codes "linux-reserved", 0x8DA63339000760C0C436083AC8230908) ∷
    (codes "linux-user-home", 0x773F91EF66D449B5BD83D683BF40AD16) ∷
    (codes "freebsd-data", 0x516E7CB46ECF11D68FF800022D09712B) ∷
    (codes "freebsd-boot", 0x83BD6B9D7F4111DCBE0B001560B84F0F) ∷
    (codes "freebsd-swap", 0x516E7CB56ECF11D68FF800022D09712B) ∷
    (codes "freebsd-ufs", 0x516E7CB66ECF11D68FF800022D09712B) ∷
    (codes "freebsd-zfs", 0x516E7CBA6ECF11D68FF800022D09712B) ∷
    (codes "freebsd-vinum", 0x516E7CB86ECF11D68FF800022D09712B) ∷
    (codes "apple-ufs", 0x55465300000011AAAA1100306543ECAC) ∷
    (codes "apple-raid", 0x52414944000011AAAA1100306543ECAC) ∷
    (codes "apple-raid-offline", 0x524149445F4F11AAAA1100306543ECAC) ∷
    (codes "apple-boot", 0x426F6F74000011AAAA1100306543ECAC) ∷
    (codes "apple-label", 0x4C6162656C0011AAAA1100306543ECAC) ∷
    (codes "apple-tv-recovery", 0x5265636F766511AAAA1100306543ECAC) ∷
    (codes "apple-core-storage", 0x53746F72616711AAAA1100306543ECAC) ∷
    (codes "apple-silicon-boot", 0x69646961670011AAAA1100306543ECAC) ∷
    (codes "apple-silicon-recovery", 0x52637672790011AAAA1100306543ECAC) ∷
    (codes "solaris-boot", 0x6A82CB451DD211B299A6080020736631) ∷
    (codes "solaris-root", 0x6A85CF4D1DD211B299A6080020736631) ∷
    (codes "solaris-usr", 0x6A898CC31DD211B299A6080020736631) ∷
    (codes "solaris-swap", 0x6A87C46F1DD211B299A6080020736631) ∷
    (codes "solaris-backup", 0x6A8B642B1DD211B299A6080020736631) ∷
    (codes "solaris-var", 0x6A8EF2E91DD211B299A6080020736631) ∷
    (codes "solaris-home", 0x6A90BA391DD211B299A6080020736631) ∷
    (codes "solaris-alternate-sector", 0x6A9283A51DD211B299A6080020736631) ∷
    (codes "solaris-reserved-1", 0x6A945A3B1DD211B299A6080020736631) ∷
    (codes "solaris-reserved-2", 0x6A9630D11DD211B299A6080020736631) ∷
    (codes "solaris-reserved-3", 0x6A9807671DD211B299A6080020736631) ∷
    (codes "solaris-reserved-4", 0x6A96237F1DD211B299A6080020736631) ∷
    (codes "solaris-reserved-5", 0x6A8D2AC71DD211B299A6080020736631) ∷
    (codes "netbsd-swap", 0x49F48D32B10E11DCB99B0019D1879648) ∷
    (codes "netbsd-ffs", 0x49F48D5AB10E11DCB99B0019D1879648) ∷
    (codes "netbsd-lfs", 0x49F48D82B10E11DCB99B0019D1879648) ∷
    (codes "netbsd-concatenated", 0x2DB519C4B10F11DCB99B0019D1879648) ∷
    (codes "netbsd-encrypted", 0x2DB519ECB10F11DCB99B0019D1879648) ∷
    (codes "netbsd-raid", 0x49F48DAAB10E11DCB99B0019D1879648) ∷
    (codes "chromeos-kernel", 0xFE3A2A5D4F3241A7B725ACCC3285A309) ∷
    (codes "chromeos-root", 0x3CB8E2023B7E47DD8A3C7FF2A13CFCEC) ∷
    (codes "chromeos-reserved", 0x2E0A753D9E4843B08337B15192CB1B5E) ∷
    (codes "midnightbsd-data", 0x85D5E45A237C11E1B4B3E89A8F7FC3A7) ∷
    (codes "midnightbsd-boot", 0x85D5E45E237C11E1B4B3E89A8F7FC3A7) ∷
    (codes "midnightbsd-swap", 0x85D5E45B237C11E1B4B3E89A8F7FC3A7) ∷
    (codes "midnightbsd-ufs", 0x0394EF8B237E11E1B4B3E89A8F7FC3A7) ∷
    (codes "midnightbsd-zfs", 0x85D5E45D237C11E1B4B3E89A8F7FC3A7) ∷
    (codes "midnightbsd-vinum", 0x85D5E45C237C11E1B4B3E89A8F7FC3A7) ∷
    (codes "ceph-journal", 0x45B0969E9B034F30B4C6B4B80CEFF106) ∷
    (codes "ceph-encrypted-journal", 0x45B0969E9B034F30B4C65EC00CEFF106) ∷
    (codes "ceph-osd", 0x4FBD7E299D2541B8AFD0062C0CEFF05D) ∷
    (codes "ceph-crypt-osd", 0x4FBD7E299D2541B8AFD05EC00CEFF05D) ∷
    (codes "ceph-disk-in-creation", 0x89C57F982FE54DC089C1F3AD0CEFF2BE) ∷
    (codes "ceph-crypt-disk-in-creation", 0x89C57F982FE54DC089C15EC00CEFF2BE) ∷
    (codes "vmware-vmfs", 0xAA31E02A400F11DB9590000C2911D1B8) ∷
    (codes "vmware-diagnostic", 0x9D27538040AD11DBBF97000C2911D1B8) ∷
    (codes "vmware-virtual-san", 0x381CFCCC728811E092EE000C2911D0B2) ∷
    (codes "vmware-virsto", 0x77719A0CA4A011E3A47E000C29745A24) ∷
    (codes "vmware-reserved", 0x9198EFFC31C011DB8F78000C2911D1B8) ∷
    (codes "openbsd-data", 0x824CC7A036A811E3890A952519AD3F61) ∷
    (codes "qnx6", 0xCEF5A9AD73BC460189F3CDEEEEE321A1) ∷
    (codes "plan9", 0xC91818F9802547AF89D2F030D7000C2C) ∷
    (codes "hifive-fsbl", 0x5B193300FC7840CD8002E86C45580B47) ∷
    (codes "hifive-bbl", 0x2E54B35312714842806FE436D6AF6985) ∷
    (codes "haiku-bfs", 0x424653313BA310F1802A4861696B7521) ∷
    (codes "marvell-armada-3700-boot", 0x6828311ABA5542A4BCDEA89BB5EDECAE) ∷
    []

-- The GUID whose text without hyphens is this number.
abbrev pub guid_of_number : ℕ → List ℕ
guid_of_number number = disk_order (to_be_bytes w128 number)

-- The number of a name in a list of types.
abbrev pub number_in : List (List ℕ × ℕ) → List ℕ → Option ℕ
number_in ts name = option_map (λ t. t.1) (find (λ t. bytes_eq t.0 name) ts)

-- The GUID of a name.
abbrev pub guid_of_name : List ℕ → Option (List ℕ)
guid_of_name name = option_map guid_of_number (number_in types name)

-- The first name of a GUID in a list of types.
abbrev pub name_in : List (List ℕ × ℕ) → List ℕ → Option (List ℕ)
name_in ts guid = option_map (λ t. t.0) (find (λ t. bytes_eq (guid_of_number t.1) guid) ts)

-- The first name of a GUID.
abbrev pub name_of_guid : List ℕ → Option (List ℕ)
name_of_guid guid = name_in types guid
