-- Why the arguments of `set`, and of any command that changes a table, are refused.
use Rattle.std.proofs.Common.{◌≡◌, ℕ, List, codes, inl, inr, subst, ⊎_elim}
use Rattle.std.specs.Prelude.{◌≢◌, Option, Some, None, Result, Ok, Err}
use Rattle.clap.specs.Words.{first_value}
use Rattle.clap.specs.declared.parser.matches.Found.{Found}
use Rattle.gptedit_core.specs.declared.setting.NewGuid.{NewGuid}
use Rattle.gptedit_words.specs.Asks.{Gives, GivesField, IsWrong, SaysNewGuid, SaysNoLock}
use Rattle.gptedit_words.specs.Refusals.{CanRun, CanSet, IsOfLook, RefusedOnlyFor}
use Rattle.gptedit_words.specs.declared.error.WordsError.{WordsError}
use Rattle.gptedit_words.specs.declared.error.WordsError.TheVariants.{Conflict, LongName, Missing, NothingToSet, OutOfMemory, Sector, Usage, Value}

given_some : {A : Type 0} (says : List ℕ → A → Type 0) (text : Option (List ℕ)) (value : A) → Gives says text (Some value) → text ≢ None
given_some says text value given = λ none. subst (λ t. Gives says t (Some value)) none given

-- The GUID of the disk, and a field of a partition, are not given together.
pub not_of_disk : (found : Found) (value : Option NewGuid) (guid : NewGuid) → value ≡ Some guid
    → Gives SaysNewGuid (first_value found (codes "--disk-guid")) value → GivesField found → ¬ (CanSet found)
not_of_disk found value guid is given field = λ can.
    let some : Gives SaysNewGuid (first_value found (codes "--disk-guid")) (Some guid) =
    subst (λ v. Gives SaysNewGuid (first_value found (codes "--disk-guid")) v) is given in
    (can.disk (given_some SaysNewGuid (first_value found (codes "--disk-guid")) guid some)).only field

-- An error of any kind is one for the reason.
pub refused_for : {A : Type 0} (found : Found) (reason : Type 0) (r : Result A WordsError) → reason → RefusedOnlyFor found reason r
refused_for found reason (Ok value) is = tt
refused_for found reason (Err OutOfMemory) is = tt
refused_for found reason (Err (LongName text)) is = inl is
refused_for found reason (Err (Usage error)) is = is
refused_for found reason (Err (Value word text wrong)) is = is
refused_for found reason (Err (Sector text)) is = is
refused_for found reason (Err NothingToSet) is = is
refused_for found reason (Err (Conflict one other)) is = is
refused_for found reason (Err (Missing word)) is = is

-- A command that changes a table needs a valid lock.
pub lock_refused : (name : List ℕ) (found : Found) → ¬ (IsOfLook name) → IsWrong SaysNoLock (first_value found (codes "--lock")) → ¬ (CanRun name found)
lock_refused name found changes wrong = λ can. ⊎_elim (λ look. changes look) (λ write. write.lock wrong) can.write

-- An error is also one for a reason that follows.
pub refused_more : (A B : Type 0) (found : Found) (reason more : Type 0) (error : WordsError) → (reason → more)
    → RefusedOnlyFor {A = A} found reason (Err error) → RefusedOnlyFor {A = B} found more (Err error)
refused_more A B found reason more OutOfMemory then is = tt
refused_more A B found reason more (LongName text) then is = ⊎_elim (λ given. inl (then given)) (λ long. inr long) is
refused_more A B found reason more (Usage error) then is = then is
refused_more A B found reason more (Value word text wrong) then is = then is
refused_more A B found reason more (Sector text) then is = then is
refused_more A B found reason more NothingToSet then is = then is
refused_more A B found reason more (Conflict one other) then is = then is
refused_more A B found reason more (Missing word) then is = then is
