-- The effect of a write that follows calls that only read.
use Rattle.std.proofs.Common.{◌≡◌, sym, subst, ◌∙◌, ℕ, List, [], ◌∷◌, Option}
use Rattle.gptman.specs.Crash.{IsKeptFor, other_place, StartsFromOne, StartsLaidOut}
use Rattle.gptman.specs.Disk.{OnlyRead, DiskState, AgreesOutside, IsHonest, Keeps, LeavesOnly, Reads, Writes, Wrote}
use Rattle.gptman.specs.Layout.{HasLayout, Holds, copy_ranges_at}
use Rattle.gptman.specs.Ranges.{AreClear}
use Rattle.gptman.specs.Stop.{HoldsOneOf, StopsHold}
use Rattle.gptman.specs.Table.{Table, table_in}
use Rattle.gptman.specs.TableWrites.{other_with_checksums, table_ranges, value_with_checksums, HasBothCopies}
use Rattle.gptman.specs.declared.codec.header.GPTHeader.{GPTHeader}
use Rattle.gptman.specs.declared.table.GPT.{GPT}
use Rattle.gptman.proofs.Held.{holds_local}
use Rattle.gptman.proofs.ReadingLaw.{reads_one_of}
use Rattle.gptman.proofs.Ranges.{contains_first, within_none, within_self}
use Rattle.gptman.proofs.Readers.{both_read}
use Rattle.gptman.proofs.Runs.{keeps_then, leaves_then, wrote_then, wrote_wider}
use Rattle.gptman_change.specs.Changes.{LeavesChange, StopsLeaveEither, written}
use Rattle.gptman_change.specs.Planning.{Makes}
use Rattle.gptman_change.specs.Reads.{IsReadFrom}
use Rattle.gptman_change.proofs.Read.{read_before}

-- a disk that holds one of two tables is read as one of them
pub either : (was next : Table) (ss : ℕ) (old new : DiskState) → StopsHold old new ss (was ∷ next ∷ []) → StopsLeaveEither was next ss old new
either was next ss old new held = record { held = held; read = λ b left known. reads_one_of b ss (was ∷ next ∷ []) (held b left) known }

module _ (next : GPT) (was : Table) (old mid : DiskState) (read : OnlyRead old mid) (keeps : Keeps old mid) where
  -- a good copy is still good after the reads
  kept_through : IsKeptFor old next was → IsKeptFor mid next was
  kept_through kept = record {
    synced = read.pending ∙ kept.synced;
    side = kept.side;
    form = kept.form;
    held = subst (λ (view : List ℕ). Holds view next.sector_size kept.side was) (sym read.view) kept.held;
    clear = subst (λ (n : ℕ). AreClear (copy_ranges_at kept.side was next.sector_size n) (copy_ranges_at (other_place kept.side) (table_in next) next.sector_size n))
        (sym keeps.size) kept.clear;
  }

  -- during the reads, a crash leaves the old table
  pub still_held : IsKeptFor old next was → LeavesOnly old mid (λ b. HoldsOneOf b next.sector_size (was ∷ table_in next ∷ []))
  still_held kept = λ b left.
      let agrees = subst (λ (ranges : List (ℕ × ℕ)). AgreesOutside ranges old.view b) kept.synced (read.wrote.crash b left) in
      record {
        side = kept.side;
        table = was;
        listed = contains_first was (table_in next ∷ []);
        holds = holds_local old.view b next.sector_size kept.side was kept.held (record { long = agrees.long; same = λ k within. agrees.same k tt });
      }

  -- and during the write, the old table or the new one
  pub leaves_since : (new : DiskState) → Wrote (table_ranges next) mid new
      → (HasLayout next mid.size → (was : Table) → IsKeptFor mid next was
      → LeavesOnly mid new (λ b. HoldsOneOf b next.sector_size (was ∷ table_in next ∷ [])))
      → HasLayout next old.size → IsKeptFor old next was
      → LeavesOnly old new (λ b. HoldsOneOf b next.sector_size (was ∷ table_in next ∷ []))
  leaves_since new wrote one_good layout kept =
      leaves_then (λ b. HoldsOneOf b next.sector_size (was ∷ table_in next ∷ [])) read.wrote.time wrote.time (still_held kept)
      (one_good (subst (λ (n : ℕ). HasLayout next n) (sym keeps.size) layout) was (kept_through kept))

pub wrote_since : (next : GPT) (old mid new : DiskState) → OnlyRead old mid → Wrote (table_ranges next) mid new
    → Wrote (table_ranges next) old new
wrote_since next old mid new read wrote = wrote_then (within_self _) (wrote_wider within_none read.wrote) wrote

-- the stated layout holds where the write begins
pub laid_out_since : (next : GPT) (old mid : DiskState) → OnlyRead old mid → Keeps old mid → HasLayout next old.size → StartsLaidOut mid next
laid_out_since next old mid read keeps layout = record {
  honest = read.wrote.honest;
  layout = subst (λ (n : ℕ). HasLayout next n) (sym keeps.size) layout;
}

-- the written bytes are those of the value and the header with their checksums
pub both_contents : (view : List ℕ) (next left : GPT) (other : GPTHeader) → left ≡ value_with_checksums next → other ≡ other_with_checksums next
    → HasBothCopies view left other → HasBothCopies view (value_with_checksums next) (other_with_checksums next)
both_contents view next left other value header laid = subst (λ (g : GPT). HasBothCopies view g (other_with_checksums next)) value
    (subst (λ (h : GPTHeader). HasBothCopies view left h) header laid)

-- A changed table was written, after calls that only read.
pub change_written : {A : Type 0} (planned : ℕ → Makes A) (size : Option ℕ) (table next : GPT) (answer : A) (old mid last new : DiskState) → IsHonest old → Reads old mid → Reads mid last
    → Keeps last new → IsReadFrom size old mid table → planned mid.size table next answer → Writes (table_ranges next) last new
    → ((was : Table) → StartsFromOne last next was → StopsHold last new next.sector_size (was ∷ table_in next ∷ [])) → LeavesChange (planned old.size) size old new
change_written planned size table next answer old mid last new honest first second keeps read made wrote one_good =
    let both = both_read first second in
    let only = both.only honest in
    let written_here = wrote only.wrote.honest in
    written table next answer (read_before size old mid new table read (keeps_then second.keeps keeps))
    (subst (λ (n : ℕ). planned n table next answer) first.keeps.size made)
    (wrote_since next old last new only written_here)
    (λ was layout kept. either was (table_in next) next.sector_size old new (leaves_since next was old last only both.keeps new written_here
    (λ here was kept. one_good was (record { start = record { honest = only.wrote.honest; layout = here }; kept = kept })) layout kept))
