-- The header that a read of a place returns.
use Rattle.std.proofs.Common.{◌≡◌, ◌≤◌, ◌<◌, ◌∙◌, ◌+◌, ℕ, Bool, List, length, sym, ap, arith, Option, None, Result}
use Rattle.std.specs.Prelude.{◌/◌, if◌then◌else◌}
use Rattle.std.specs.Result.{result_ok}
use Rattle.std.proofs.lemmas.Bool.{le-leb}
use Rattle.gptman.specs.Fault.{Fault}
use Rattle.gptman.specs.declared.codec.header.GPTHeader.{GPTHeader}
use Rattle.gptman.proofs.CopyTests.{header_short}
use Rattle.gptedit_look.specs.Wiped.{byte_of, header_found, header_in}
use Rattle.gptedit_look.specs.declared.signatures.HeaderPlace.{HeaderPlace}

-- the header, if there are enough sectors
abbrev chosen : HeaderPlace → ℕ → List ℕ → Bool → Option GPTHeader
chosen place ss b test = if test then header_found b (byte_of place ss (length b)) else None

-- the header at a place on the disk
pub in_there : (place : HeaderPlace) (ss size at : ℕ) (b : List ℕ) → length b ≡ size → 1 < size / ss → at ≡ byte_of place ss size → header_found b at ≡ header_in place ss b
in_there place ss size at b long many is =
    let same : length b / ss ≡ size / ss = ap (λ (n : ℕ). n / ss) long in
    let high : 2 ≤ length b / ss = omega (arith, same, many) in
    ap (λ (x : ℕ). header_found b x) (is ∙ ap (λ (n : ℕ). byte_of place ss n) (sym long)) ∙ sym (ap (chosen place ss b) (le-leb 2 (length b / ss) high))

-- there is none if the disk ends before
pub in_short : (place : HeaderPlace) (ss size at : ℕ) (b : List ℕ) → length b ≡ size → 1 < size / ss → at ≡ byte_of place ss size → size < at + 92 → None ≡ header_in place ss b
in_short place ss size at b long many is short =
    let past : length b < at + 92 = omega (arith, long, short) in
    sym (ap (λ (x : Result GPTHeader Fault). result_ok x) (header_short b at past)) ∙ in_there place ss size at b long many is
