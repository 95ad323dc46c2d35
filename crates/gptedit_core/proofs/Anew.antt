-- A new table is made without reading an old one.
use Rattle.std.proofs.Common.{◌≡◌, ◌⊎◌, inl, inr, sym, ap, ◌∙◌, subst, ℕ, ◌<◌, false, List, [], ◌∷◌}
use Rattle.std.specs.Prelude.{Option, Some, None}
use Rattle.gptman.specs.Crash.{AreReadFromEachCopy, StartsFromOne, StartsLaidOut}
use Rattle.gptman.specs.Disk.{DiskState, Keeps, OnlyRead, Wrote}
use Rattle.gptman.specs.Fault.{Fault, io}
use Rattle.gptman.specs.Layout.{HasLayout}
use Rattle.gptman.specs.Stop.{IsStored, StopsHold}
use Rattle.gptman.specs.Table.{Table, new_table_of, table_in}
use Rattle.gptman.specs.TableWrites.{table_ranges, IsFailureOrMemory}
use Rattle.gptman.specs.declared.table.GPT.{GPT}
use Rattle.gptman.proofs.Readers.{reads_then}
use Rattle.gptman.proofs.Runs.{rose_since}
use Rattle.gptman_change.proofs.Left.{either, laid_out_since, leaves_since, wrote_since}
use Rattle.gptedit_core.specs.Applying.{IsStopOf}
use Rattle.gptedit_core.specs.Making.{HasRoomFor, IsEmpty, IsEmptyFor, IsFitted, IsNew, IsOnDisk, IsPlannedNew, KeepsLaidOut, LeavesMaking, MayBeReplaced, RefusesMaking, RefusesNew, RefusesRemaking}
use Rattle.gptedit_core.specs.Making.LeavesMaking.{written}
use Rattle.gptedit_core.specs.Making.RefusesMaking.{failed_then, no_memory}
use Rattle.gptedit_core.specs.Making.RefusesRemaking.{not_new}
use Rattle.gptedit_core.specs.declared.making.Creation.{Creation}
use Rattle.gptedit_core.specs.declared.making.Made.{Made}
use Rattle.gptedit_core.specs.declared.making.Made.TheVariants.{New}
use Rattle.gptedit_core.specs.declared.refusal.Stop.{Stop}
use Rattle.gptedit_core.specs.declared.refusal.Stop.TheVariants.{Refused, Failed}
use Rattle.gptedit_core.proofs.Bounded.{new_layout, new_sector}

-- A fitted table with the stated layout is the empty one.
pub is_empty : (count : ℕ) (guid : List ℕ) (ss len : ℕ) (table kept : Option GPT) → IsFitted count guid ss len table → KeepsLaidOut table len kept → IsEmptyFor count guid ss len kept
is_empty count guid ss len None None fitted keeps = λ room. let both = sym fitted ∙ room.fits in absurd (cc)
is_empty count guid ss len None (Some k) fitted keeps = absurd (cc)
is_empty count guid ss len (Some g) None fitted keeps = λ room. keeps (subst (λ (m : GPT). HasLayout m len) (sym fitted.1) room.layout)
is_empty count guid ss len (Some g) (Some k) fitted keeps =
    (record { fits = fitted.0; layout = subst (λ (m : GPT). HasLayout m len) fitted.1 keeps.0 }, keeps.1 ∙ fitted.1)

pub some_empty : (count : ℕ) (guid : List ℕ) (ss len : ℕ) (o : Option GPT) (g : GPT) → o ≡ Some g → IsEmptyFor count guid ss len o → HasRoomFor count guid ss len × (g ≡ new_table_of count guid ss len)
some_empty count guid ss len o g is has = subst (IsEmptyFor count guid ss len) is has

pub some_sector : (creation : Creation) (ss len : ℕ) (o : Option GPT) (g : GPT) → o ≡ Some g → IsEmpty creation ss len o → g.sector_size ≡ ss
some_sector creation ss len o g is has = ap (λ (m : GPT). m.sector_size) (some_empty creation.entries creation.guid ss len o g is has).1

-- A refusal of the new table is a refusal of the replacement.
pub stop_remade : (creation : Creation) (len ss : ℕ) (g : GPT) → MayBeReplaced creation g len → ss ≡ g.sector_size → (s : Stop) → IsStopOf (RefusesNew creation ss len) s
    → IsStopOf (RefusesRemaking creation len g) s
stop_remade creation len ss g may same (Refused r) refused = not_new may (subst (λ (n : ℕ). RefusesNew creation n len r) same refused)
stop_remade creation len ss g may same (Failed e) refused = refused

pub planned_new : (creation : Creation) (ss len : ℕ) (made : Made) (next w : GPT) → made ≡ New next → w ≡ next → IsPlannedNew creation ss len made → IsNew creation ss len w
planned_new creation ss len made next w is same planned = subst (IsNew creation ss len) (sym same) (subst (IsPlannedNew creation ss len) is planned)

-- The sector size of a new table is above 0.
pub new_above : (creation : Creation) (ss len : ℕ) (next : GPT) → IsNew creation ss len next → 0 < ss → 0 < next.sector_size
new_above creation ss len next is some = subst (λ (n : ℕ). 0 < n) (sym (new_sector creation ss len next is)) some

-- ---- the disk after the write

module _ (creation : Creation) (ss : ℕ) (next : GPT) (old mid new : DiskState) (read : OnlyRead old mid) (keeps : Keeps old mid) (is : IsNew creation ss old.size next)
    (wrote : Wrote (table_ranges next) mid new) where
  starts : StartsLaidOut mid next
  starts = laid_out_since next old mid read keeps (new_layout creation ss old.size next is)

  pub on_disk : (StartsLaidOut mid next → IsStored new next.sector_size (table_in next)) → (StartsLaidOut mid next → AreReadFromEachCopy new.view next) → IsOnDisk next old new
  on_disk stored alone = record { wrote = wrote_since next old mid new read wrote; stored = stored starts; each_copy = alone starts }

  pub made_leaves : ((was : Table) → StartsFromOne mid next was → StopsHold mid new next.sector_size (was ∷ table_in next ∷ [])) → LeavesMaking creation ss old new
  made_leaves one_good =
      written next is (wrote_since next old mid new read wrote)
      (λ was kept. either was (table_in next) next.sector_size old new
      (leaves_since next was old mid read keeps new wrote
      (λ here was kept. one_good was (record { start = record { honest = read.wrote.honest; layout = here }; kept = kept }))
      (new_layout creation ss old.size next is) kept))

  pub made_refused : (fault : Fault) → creation.is_dry ≡ false → IsFailureOrMemory fault mid new → (fault ≡ io) ⊎ OnlyRead mid new → RefusesMaking creation ss fault old new
  made_refused fault wet (inl memory) (inl failed) = absurd (cc)
  made_refused fault wet (inl memory) (inr only) = no_memory memory (reads_then read only)
  made_refused fault wet (inr failed) untouched = failed_then next is wet (failed.0, rose_since old mid new keeps failed.1) (wrote_since next old mid new read wrote)
