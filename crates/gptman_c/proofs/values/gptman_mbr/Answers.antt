use Rattle.std.proofs.Common.{◌≡◌, List, ℕ, length, drop, sym, ap, ◌∙◌, arith}
use Rattle.std.proofs.lemmas.List.{drop_at, length-take-le, take_at}
use Rattle.gptman_c.proofs.values.gptman_mbr.Goals as goal

pub copy_from_slice-requires : goal.copy_from_slice-requires
copy_from_slice-requires c =
    let long : length c.in-Ok.mbr ≡ 66 = omega arith in
    length-take-le 66 c.args.bytes.now c.if-bytes-lt66.false ∙ sym long

pub returns-in-Ok-clause-bytes : goal.returns-in-Ok-clause-bytes
returns-in-Ok-clause-bytes c = λ _.
    let laid : c.copy_from_slice.new.self ≡ c.in-Ok.mbr = c.copy_from_slice.ensures.after in
    let many : length c.in-Ok.mbr ≡ 66 = omega arith in
    let long : length c.copy_from_slice.new.self ≡ 66 = ap (λ (l : List ℕ). length l) laid ∙ many in
    take_at c.copy_from_slice.new.self (drop 66 c.args.bytes.now) 66 long ∙ laid ∙ c.in-Ok.ensures.bytes

pub returns-in-Ok-clause-rest : goal.returns-in-Ok-clause-rest
returns-in-Ok-clause-rest c =
    let laid : c.copy_from_slice.new.self ≡ c.in-Ok.mbr = c.copy_from_slice.ensures.after in
    let many : length c.in-Ok.mbr ≡ 66 = omega arith in
    let long : length c.copy_from_slice.new.self ≡ 66 = ap (λ (l : List ℕ). length l) laid ∙ many in
    drop_at c.copy_from_slice.new.self (drop 66 c.args.bytes.now) 66 long
