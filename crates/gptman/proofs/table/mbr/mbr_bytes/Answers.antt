use Rattle.std.proofs.Common.{◌≡◌, ℕ, ◌-◌, ◌/◌, min, List, [], ◌∷◌, replicate, refl, ◌∙◌}
use Rattle.std.specs.Prelude.{if◌then◌else◌}
use Rattle.byteorder.specs.Endian.{little_bytes}
use Rattle.gptman.specs.Mbr.{mbr_bytes}
use Rattle.gptman.proofs.Assembly.{written_none, written_more, written_kept, written_all}
use Rattle.gptman.proofs.table.mbr.mbr_bytes.Goals as goal
use Rattle.gptman.proofs.table.mbr.mbr_bytes.Goals.{then-bootable, else-bootable}

pub returns : goal.returns
unfolding mbr_bytes
returns c =
    let status : ℕ = c.if-bootable.status in
    let status_is : status ≡ (if c.args.bootable then 0x80 else 0) =
    elim c.if-bootable.branch [ then-bootable w ↦ cc | else-bootable w ↦ cc ] in
    let sectors : ℕ = c.min-sectors.result in
    let sectors_are : sectors ≡ min (c.args.size / c.args.sector_size - 1) 0xFFFFFFFF = cc in
    let first : List ℕ = status ∷ 0 ∷ 2 ∷ 0 ∷ 0xee ∷ 0xff ∷ 0xff ∷ 0xff ∷ [] in
    let w1 = written_more (written_none (replicate 66 0)) first 8 refl c.put.ensures in
    let w2 = written_more w1 (little_bytes 4 1) 4 refl c.put_u32.ensures.written in
    let w3 = written_more w2 (little_bytes 4 sectors) 4 refl c.put_u32-2.ensures.written in
    let w4 = written_kept w3 (replicate 48 0) (replicate 2 0) 48 refl refl in
    let w5 = written_more w4 (0x55 ∷ 0xaa ∷ []) 2 refl c.put-2.ensures in
    written_all w5 refl ∙ rw (status_is, sectors_are) refl
