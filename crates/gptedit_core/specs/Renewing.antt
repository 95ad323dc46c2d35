-- The layout that gives a disk and its partitions new GUIDs.
use Rattle.std.specs.Prelude.{◌≡◌, ◌+◌, ◌++◌, ◌^◌, ℕ, nat_eq, if◌then◌else◌, slice_index_or, List, [], ◌∷◌, Option, None, Some}
use Rattle.std.specs.List.{enumerate_from}
use Rattle.gptman.specs.Entry.{is_used}
use Rattle.gptman.specs.Table.{entries_in}
use Rattle.gptman.specs.declared.codec.entry.GPTPartitionEntry.{GPTPartitionEntry}
use Rattle.gptman.specs.declared.table.GPT.{GPT}
use Rattle.gptedit_core.specs.Resolving.{nothing_of, used_at}
use Rattle.gptedit_core.specs.Selecting.{asked_for, asked_rest}
use Rattle.gptedit_core.specs.Targets.{IsOnly}
use Rattle.gptedit_core.specs.declared.amount.Amount.{Amount}
use Rattle.gptedit_core.specs.declared.amount.Amount.TheVariants.{Bytes, Sectors}
use Rattle.gptedit_core.specs.declared.asked.Asked.{Asked}
use Rattle.gptedit_core.specs.declared.asked.Mode.TheVariants.{Change}
use Rattle.gptedit_core.specs.declared.asked.RequestedLayout.{RequestedLayout}
use Rattle.gptedit_core.specs.declared.asked.Size.{Size}
use Rattle.gptedit_core.specs.declared.target.Target.{Target}

-- The number of used entries.
abbrev pub count_used : List (ℕ × GPTPartitionEntry) → ℕ
count_used [] = 0
count_used (e ∷ es) = if is_used e.1 then count_used es + 1 else count_used es

-- The number of GUIDs of a table: one for the disk, and one for each used entry.
abbrev pub guids_in : GPT → ℕ
guids_in g = count_used (enumerate_from 1 (entries_in g)) + 1

-- The size that is asked of entry i: that of an extension if it is the extended one.
abbrev pub size_anew : Option ℕ → ℕ → Option Size
size_anew None i = None
size_anew (Some n) i = if nat_eq n i then asked_rest.size else None

-- What is asked of entry i: this GUID, and the size of an extension if it is the extended one.
abbrev pub asked_anew : Option ℕ → ℕ → List ℕ → Asked
asked_anew extended i guid = record (nothing_of (Some i)) { unique_guid = Some guid; size = size_anew extended i }

-- The requests for the used entries, in their order. The first gets the GUID with index k, and each other one the next.
abbrev pub all_anew : Option ℕ → List (List ℕ) → ℕ → List (ℕ × GPTPartitionEntry) → List Asked
all_anew extended guids k [] = []
all_anew extended guids k (e ∷ es) =
    if is_used e.1 then asked_anew extended e.0 (slice_index_or guids k []) ∷ all_anew extended guids (k + 1) es else all_anew extended guids k es

-- The request for an extended entry that is not used, so that the layout is refused as an extension is.
abbrev pub unmet : GPT → Option ℕ → List Asked
unmet g None = []
unmet g (Some i) = elim (used_at g i) [ None ↦ asked_for i asked_rest ∷ [] | Some e ↦ [] ]

-- The alignment, which is that of an extension if an entry is extended.
abbrev pub align_anew : Option ℕ → Amount
align_anew None = Sectors 1
align_anew (Some i) = Bytes (2 ^ 20)

-- The layout gives the disk the first of the GUIDs, and each used entry the next one, in the order of the table. It also
-- extends the entry of this number, if any, and does nothing else.
pub record IsRenewal (g : GPT) (extended : Option ℕ) (guids : List (List ℕ)) (layout : RequestedLayout) : Type 0 where
  pub mode_is : layout.mode ≡ Change
  pub guid_is : layout.disk_guid ≡ Some (slice_index_or guids 0 [])
  pub align_is : layout.align ≡ align_anew extended
  pub removes_none : layout.removed.items ≡ []
  pub asks : layout.asked.items ≡ all_anew extended guids 1 (enumerate_from 1 (entries_in g)) ++ unmet g extended

-- The layout gives the disk and each used entry one of the GUIDs, and extends the selected entry, if any.
abbrev pub Renews : GPT → Option Target → List (List ℕ) → RequestedLayout → Type 0
Renews g None guids layout = IsRenewal g None guids layout
Renews g (Some target) guids layout = (i : ℕ) × (IsOnly g target i × IsRenewal g (Some i) guids layout)
