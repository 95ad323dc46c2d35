-- The meaning of places and sizes as a user states them, in sectors.
use Prim.Native.Nat.{◌∣◌}
use Rattle.std.specs.Prelude.{◌≡◌, ◌≤◌, ◌<◌, ◌⊎◌, ℕ, ◌+◌, ◌-◌, ◌*◌, ◌^◌, Bool, true, false, not, ◌||◌, nat_eq, if◌then◌else◌, Option, None, Some, option_map}
use Rattle.gptman.specs.Place.{IsFirstMultiple}
use Rattle.gptman.specs.declared.table.GPT.{GPT}
use Rattle.gptedit_core.specs.Resolving.{sectors_in, there_of, used_at}
use Rattle.gptedit_core.specs.declared.amount.Amount.{Amount}
use Rattle.gptedit_core.specs.declared.amount.Amount.TheVariants.{Sectors, Bytes}
use Rattle.gptedit_core.specs.declared.asked.Asked.{Asked}
use Rattle.gptedit_core.specs.declared.asked.Size.TheVariants.{Exactly as ExactSize, Rest as RestSize}
use Rattle.gptedit_core.specs.declared.measure.Extent.{Extent}
use Rattle.gptedit_core.specs.declared.measure.Extent.TheVariants.{Size, Rest, End, More, Less}
use Rattle.gptedit_core.specs.declared.measure.Measure.{Measure}
use Rattle.gptedit_core.specs.declared.measure.Measure.TheVariants.{Exactly, About, Share}
use Rattle.gptedit_core.specs.declared.measure.Position.{Position}
use Rattle.gptedit_core.specs.declared.measure.Position.TheVariants.{FromStart, FromEnd}
use Rattle.gptedit_core.specs.declared.measure.Scale.{Scale}
use Rattle.gptedit_core.specs.declared.measuring.MeasuredPlace.{MeasuredPlace}
use Rattle.gptedit_core.specs.declared.measuring.MeasuredRequest.{MeasuredRequest}
use Rattle.gptedit_core.specs.declared.scale.Measured.{Measured}
use Rattle.gptedit_core.specs.declared.scale.MeasuredSize.{MeasuredSize}
use Rattle.gptedit_core.specs.declared.scale.Unmeasured.{Unmeasured}
use Rattle.gptedit_core.specs.declared.scale.Unmeasured.TheVariants.{NotWhole, NoAlignment, NoSize, TooLarge, NoStart, NoPartition, BeforeStart}
use Rattle.gptedit_core.specs.declared.sectors.SectorRange.{SectorRange}

-- ---- the scale of a table

-- n is the largest multiple of align that, at unit for each sector, is at most the value.
pub record IsFloor (align unit value n : ℕ) : Type 0 where
  pub multiple : align ∣ n
  pub low : n * unit ≤ value
  pub next : value < (n + align) * unit

-- The scale of a table with this alignment.
pub record IsScale (g : GPT) (align : Amount) (s : Scale) : Type 0 where
  pub sector_size : s.sector_size ≡ g.sector_size
  pub is_align : sectors_in align g.sector_size ≡ Some s.align
  pub some : 0 < s.align
  pub first : IsFirstMultiple s.align g.header.first_usable_lba s.first
  pub end : s.end ≡ g.header.last_usable_lba + 1
  pub last : IsFloor s.align 1 s.end s.last

-- A table has no scale with this alignment.
pub data RefusesScale (g : GPT) (align : Amount) (r : Unmeasured) : Type 0 where
  not_whole : sectors_in align g.sector_size ≡ None → r ≡ NotWhole align → RefusesScale g align r
  no_alignment : sectors_in align g.sector_size ≡ Some 0 → r ≡ NoAlignment → RefusesScale g align r
  no_first : (n first : ℕ) → sectors_in align g.sector_size ≡ Some n → 0 < n → IsFirstMultiple n g.header.first_usable_lba first → 2 ^ 64 ≤ first → r ≡ TooLarge → RefusesScale g align r
  no_end : (n : ℕ) → sectors_in align g.sector_size ≡ Some n → 0 < n → 2 ^ 64 ≤ g.header.last_usable_lba + 1 → r ≡ TooLarge → RefusesScale g align r

-- ---- lengths

-- The number of sectors that shares are of: those between the first and the last usable multiple of the alignment.
abbrev pub shared : Scale → ℕ
shared s = s.last - s.first

-- The parts of the whole.
abbrev pub whole : ℕ
whole = 100000000

-- n is this length in sectors.
abbrev pub IsLength : Scale → Measure → ℕ → Type 0
IsLength s (Exactly amount) n = sectors_in amount s.sector_size ≡ Some n
IsLength s (About bytes) n = IsFloor s.align s.sector_size bytes n
IsLength s (Share parts) n = IsFloor s.align whole (parts * shared s) n

-- n sectors are the length that was stated, with nothing left over.
abbrev pub is_exact : Scale → Measure → ℕ → Bool
is_exact s (Exactly amount) n = true
is_exact s (About bytes) n = nat_eq (n * s.sector_size) bytes
is_exact s (Share parts) n = nat_eq (n * whole) (parts * shared s)

-- The measured length.
pub record IsMeasured (s : Scale) (measure : Measure) (m : Measured) : Type 0 where
  pub length : IsLength s measure m.sectors
  pub rounded : m.is_rounded ≡ not (is_exact s measure m.sectors)

-- The length has no 64-bit number of sectors.
abbrev pub RefusesLength : Scale → Measure → Unmeasured → Type 0
RefusesLength s (Exactly amount) r = (r ≡ NotWhole amount) × (sectors_in amount s.sector_size ≡ None)
RefusesLength s (About bytes) r = (r ≡ TooLarge) × ((n : ℕ) × IsLength s (About bytes) n × (2 ^ 64 ≤ n))
RefusesLength s (Share parts) r = (r ≡ TooLarge) × ((n : ℕ) × IsLength s (Share parts) n × (2 ^ 64 ≤ n))

-- ---- positions

abbrev pub length_of : Position → Measure
length_of (FromStart measure) = measure
length_of (FromEnd measure) = measure

-- Sector x is n sectors from where the position counts. Before the end of the usable sectors it is the largest
-- multiple of the alignment that leaves n sectors, unless the user stated a number of sectors.
abbrev pub IsAt : Scale → Position → ℕ → ℕ → Type 0
IsAt s (FromStart (Exactly amount)) n x = x ≡ n
IsAt s (FromStart (About bytes)) n x = x ≡ n
IsAt s (FromStart (Share parts)) n x = x ≡ s.first + n
IsAt s (FromEnd (Exactly (Sectors k))) n x = x + n ≡ s.end
IsAt s (FromEnd (Exactly (Bytes k))) n x = (n ≤ s.end) × IsFloor s.align 1 (s.end - n) x
IsAt s (FromEnd (About bytes)) n x = (n ≤ s.end) × IsFloor s.align 1 (s.end - n) x
IsAt s (FromEnd (Share parts)) n x = (n ≤ s.end) × IsFloor s.align 1 (s.end - n) x

-- Sector x is exactly n sectors from there.
abbrev pub is_exactly_at : Scale → Position → ℕ → ℕ → Bool
is_exactly_at s (FromStart measure) n x = true
is_exactly_at s (FromEnd measure) n x = nat_eq (x + n) s.end

-- Sector x is at this position.
abbrev pub IsSector : Scale → Position → ℕ → Type 0
IsSector s position x = (n : ℕ) × IsLength s (length_of position) n × IsAt s position n x

-- The measured position.
pub record IsPosition (s : Scale) (position : Position) (m : Measured) : Type 0 where
  pub length : Measured
  pub is_length : IsMeasured s (length_of position) length
  pub place : IsAt s position length.sectors m.sectors
  pub rounded : m.is_rounded ≡ (not (is_exactly_at s position length.sectors m.sectors) || length.is_rounded)

-- There is no sector at this distance.
abbrev pub RefusesAt : Scale → Position → Unmeasured → Type 0
RefusesAt s (FromStart measure) r = (r ≡ TooLarge) × ((x : ℕ) × IsSector s (FromStart measure) x × (2 ^ 64 ≤ x))
RefusesAt s (FromEnd measure) r = (r ≡ BeforeStart) × ((n : ℕ) × IsLength s measure n × (s.end < n))

-- The position is no sector.
abbrev pub RefusesSector : Scale → Position → Unmeasured → Type 0
RefusesSector s position r = RefusesLength s (length_of position) r ⊎ RefusesAt s position r

-- ---- sizes

-- An end that is stated as a sector is the last one of the partition.
abbrev pub is_last : Position → Bool
is_last (FromStart (Exactly (Sectors k))) = true
is_last (FromStart (Exactly (Bytes k))) = false
is_last (FromStart (About bytes)) = false
is_last (FromStart (Share parts)) = false
is_last (FromEnd measure) = false

-- The sector after a partition that ends at this position, which is sector x.
abbrev pub after_end : Position → ℕ → ℕ
after_end position x = if is_last position then x + 1 else x

-- The number of sectors of a range.
abbrev pub sectors_of : SectorRange → ℕ
sectors_of range = range.last + 1 - range.first

-- The first sector of a partition, by its requested start and its present place.
abbrev pub first_of : Option ℕ → Option SectorRange → Option ℕ
first_of (Some first) there = Some first
first_of None (Some range) = Some range.first
first_of None None = None

-- The extent means n sectors; none, if the end is not after the start, or the partition gets shorter by all it has.
abbrev pub IsCount : Scale → Option ℕ → Option SectorRange → Extent → ℕ → Type 0
IsCount s start there (Size measure) n = IsLength s measure n
IsCount s start there Rest n = ⊥
IsCount s start there (End position) n = (first x : ℕ) × (first_of start there ≡ Some first) × IsSector s position x × (n ≡ after_end position x - first)
IsCount s start there (More measure) n = (range : SectorRange) × (k : ℕ) × (there ≡ Some range) × IsLength s measure k × (n ≡ sectors_of range + k)
IsCount s start there (Less measure) n = (range : SectorRange) × (k : ℕ) × (there ≡ Some range) × IsLength s measure k × (n ≡ sectors_of range - k)

-- Whether the length or the position in the extent was rounded.
abbrev pub IsRoundedIn : Scale → Extent → Bool → Type 0
IsRoundedIn s (Size measure) b = (m : Measured) × IsMeasured s measure m × (b ≡ m.is_rounded)
IsRoundedIn s Rest b = b ≡ false
IsRoundedIn s (End position) b = (m : Measured) × IsPosition s position m × (b ≡ m.is_rounded)
IsRoundedIn s (More measure) b = (m : Measured) × IsMeasured s measure m × (b ≡ m.is_rounded)
IsRoundedIn s (Less measure) b = (m : Measured) × IsMeasured s measure m × (b ≡ m.is_rounded)

-- The measured number of sectors of an extent.
pub record HasCount (s : Scale) (start : Option ℕ) (there : Option SectorRange) (extent : Extent) (m : Measured) : Type 0 where
  pub some : 0 < m.sectors
  pub count : IsCount s start there extent m.sectors
  pub rounded : IsRoundedIn s extent m.is_rounded

-- The measured size.
pub data IsSized (s : Scale) (start : Option ℕ) (there : Option SectorRange) (extent : Extent) (m : MeasuredSize) : Type 0 where
  rest : extent ≡ Rest → m.size ≡ RestSize → m.is_rounded ≡ false → IsSized s start there extent m
  counted : (n : Measured) → HasCount s start there extent n → m.size ≡ ExactSize (Sectors n.sectors) → m.is_rounded ≡ n.is_rounded → IsSized s start there extent m

-- A length or a position in the extent is refused, or what it refers to is missing.
abbrev pub RefusesParts : Scale → Option ℕ → Option SectorRange → Extent → Unmeasured → Type 0
RefusesParts s start there (Size measure) r = RefusesLength s measure r
RefusesParts s start there Rest r = ⊥
RefusesParts s start there (End position) r = elim (first_of start there) [ None ↦ r ≡ NoStart | Some first ↦ RefusesSector s position r ]
RefusesParts s start there (More measure) r = elim there [ None ↦ r ≡ NoPartition | Some range ↦ RefusesLength s measure r ]
RefusesParts s start there (Less measure) r = elim there [ None ↦ r ≡ NoPartition | Some range ↦ RefusesLength s measure r ]

-- A number of sectors that no partition can have.
abbrev pub RefusesCount : (ℕ → Type 0) → Unmeasured → Type 0
RefusesCount count r = ((r ≡ NoSize) × count 0) ⊎ ((r ≡ TooLarge) × ((n : ℕ) × count n × (2 ^ 64 ≤ n)))

-- The extent is no size.
abbrev pub RefusesSize : Scale → Option ℕ → Option SectorRange → Extent → Unmeasured → Type 0
RefusesSize s start there extent r = RefusesParts s start there extent r ⊎ RefusesCount (IsCount s start there extent) r

-- ---- places

-- The measured start, if one is stated.
abbrev pub IsStart : Scale → Option Position → Option Measured → Type 0
IsStart s None m = m ≡ None
IsStart s (Some position) None = ⊥
IsStart s (Some position) (Some m) = IsPosition s position m

-- The measured size, if an extent is stated.
abbrev pub IsExtent : Scale → Option ℕ → Option SectorRange → Option Extent → Option MeasuredSize → Type 0
IsExtent s start there None m = m ≡ None
IsExtent s start there (Some extent) None = ⊥
IsExtent s start there (Some extent) (Some m) = IsSized s start there extent m

abbrev pub sector_in : Option Measured → Option ℕ
sector_in start = option_map (λ m. m.sectors) start

-- The measured place.
pub record IsMeasuredPlace (g : GPT) (align : Amount) (start : Option Position) (extent : Option Extent) (there : Option SectorRange) (place : MeasuredPlace) : Type 0 where
  pub scale : Scale
  pub is_scale : IsScale g align scale
  pub start_is : IsStart scale start place.start
  pub size_is : IsExtent scale (sector_in place.start) there extent place.size

-- The place is refused, for the first of these reasons that applies.
pub data RefusesPlace (g : GPT) (align : Amount) (start : Option Position) (extent : Option Extent) (there : Option SectorRange) (r : Unmeasured) : Type 0 where
  no_scale : RefusesScale g align r → RefusesPlace g align start extent there r
  no_start : (s : Scale) (position : Position) → IsScale g align s → start ≡ Some position → RefusesSector s position r → RefusesPlace g align start extent there r
  no_size : (s : Scale) (m : Option Measured) (e : Extent) → IsScale g align s → IsStart s start m → extent ≡ Some e → RefusesSize s (sector_in m) there e r
      → RefusesPlace g align start extent there r

-- ---- requests

-- The sectors of the used entry with this number.
abbrev pub range_at : GPT → Option ℕ → Option SectorRange
range_at g None = None
range_at g (Some number) = there_of (used_at g number)

abbrev pub is_start_rounded : Option Measured → Bool
is_start_rounded None = false
is_start_rounded (Some m) = m.is_rounded

abbrev pub is_size_rounded : Option MeasuredSize → Bool
is_size_rounded None = false
is_size_rounded (Some m) = m.is_rounded

-- The request with the measured place of its partition.
pub record IsMeasuredRequest (g : GPT) (align : Amount) (start : Option Position) (extent : Option Extent) (asked : Asked) (m : MeasuredRequest) : Type 0 where
  pub place : MeasuredPlace
  pub is_place : IsMeasuredPlace g align start extent (range_at g asked.number) place
  pub asked_is : m.asked ≡ record asked { start = option_map (λ x. Sectors x.sectors) place.start; size = option_map (λ x. x.size) place.size }
  pub start_rounded : m.is_start_rounded ≡ is_start_rounded place.start
  pub size_rounded : m.is_size_rounded ≡ is_size_rounded place.size
