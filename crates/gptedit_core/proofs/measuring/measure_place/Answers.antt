use Rattle.std.proofs.Common.{◌≡◌, sym, ℕ, subst, refl, Option, Some, None}
use Rattle.std.proofs.lemmas.Result.{err_from_is_err_and}
use Rattle.gptedit_core.specs.Measuring.{sector_in, IsExtent, IsPosition, IsSized, IsStart, RefusesSize}
use Rattle.gptedit_core.specs.Measuring.RefusesPlace.{no_scale, no_size, no_start}
use Rattle.gptedit_core.specs.declared.measure.Extent.{Extent}
use Rattle.gptedit_core.specs.declared.measure.Position.{Position}
use Rattle.gptedit_core.specs.declared.measure.Scale.{Scale}
use Rattle.gptedit_core.specs.declared.scale.Measured.{Measured}
use Rattle.gptedit_core.specs.declared.scale.MeasuredSize.{MeasuredSize}
use Rattle.gptedit_core.specs.declared.scale.Unmeasured.{Unmeasured}
use Rattle.gptedit_core.specs.declared.sectors.SectorRange.{SectorRange}
use Rattle.gptedit_core.proofs.measuring.measure_place.Goals as goal
use Rattle.gptedit_core.proofs.measuring.measure_place.Goals.{in-Some+in_ok-sector-in-Some, in-None}

some_start : (s : Scale) (start : Option Position) (m : Option Measured) (position : Position) (x : Measured) → start ≡ Some position → m ≡ Some x → IsPosition s position x → IsStart s start m
some_start s start m position x is at h =
    subst (λ (p : Option Position). IsStart s p m) (sym is) (subst (λ (y : Option Measured). IsStart s (Some position) y) (sym at) h)

none_start : (s : Scale) (start : Option Position) (m : Option Measured) → start ≡ None → m ≡ None → IsStart s start m
none_start s start m is at = subst (λ (p : Option Position). IsStart s p m) (sym is) at

refused_by : (s : Scale) (first : Option ℕ) (m : Option Measured) (there : Option SectorRange) (extent : Extent) (r : Unmeasured) → first ≡ sector_in m → RefusesSize s first there extent r → RefusesSize s (sector_in m) there extent r
refused_by s first m there extent r is h = subst (λ (f : Option ℕ). RefusesSize s f there extent r) is h

some_size : (s : Scale) (first : Option ℕ) (m : Option Measured) (there : Option SectorRange) (extent : Option Extent) (e : Extent) (x : MeasuredSize) → first ≡ sector_in m → extent ≡ Some e → IsSized s first there e x → IsExtent s (sector_in m) there extent (Some x)
some_size s first m there extent e x is at h =
    subst (λ (t : Option Extent). IsExtent s (sector_in m) there t (Some x)) (sym at) (subst (λ (f : Option ℕ). IsSized s f there e x) is h)

none_size : (s : Scale) (first : Option ℕ) (there : Option SectorRange) (extent : Option Extent) → extent ≡ None → IsExtent s first there extent None
none_size s first there extent at = subst (λ (t : Option Extent). IsExtent s first there t None) (sym at) refl

pub returns-in_err-scale-clause-refused : goal.returns-in_err-scale-clause-refused
returns-in_err-scale-clause-refused c =
    let p = err_from_is_err_and c.from_residual.result c.from_residual.ensures.1 in
    rw (p.1, p.2) (no_scale c.in_err-scale.ensures.refused)

pub returns-in_err-sector-in-Some-clause-refused : goal.returns-in_err-sector-in-Some-clause-refused
returns-in_err-sector-in-Some-clause-refused c =
    let p = err_from_is_err_and c.from_residual-in_err-sector-in-Some.result c.from_residual-in_err-sector-in-Some.ensures.1 in
    rw (p.1, p.2) (no_start c.in_ok-scale.scale c.in-Some.position c.in_ok-scale.ensures.ok c.in-Some.is c.in_err-sector-in-Some.ensures.refused)

pub returns-in_err-size-in-Some-extent-clause-refused : goal.returns-in_err-size-in-Some-extent-clause-refused
returns-in_err-size-in-Some-extent-clause-refused c =
    let p = err_from_is_err_and c.from_residual-in_err-size-in-Some-extent.result c.from_residual-in_err-size-in-Some-extent.ensures.1 in
    let start : IsStart c.in_ok-scale.scale c.args.start c.match-start.start = elim c.match-start.branch [
      | in-Some+in_ok-sector-in-Some w ↦
          some_start c.in_ok-scale.scale c.args.start c.match-start.start w.in-Some.position w.in_ok-sector-in-Some.field-0 w.in-Some.is w.start-is w.in_ok-sector-in-Some.ensures.ok
      | in-None w ↦ none_start c.in_ok-scale.scale c.args.start c.match-start.start w.in-None.is w.start-is
    ] in
    rw (p.1, p.2)
    (no_size c.in_ok-scale.scale c.match-start.start c.in-Some-extent.extent c.in_ok-scale.ensures.ok start c.in-Some-extent.is
    (refused_by c.in_ok-scale.scale c.sector_in-first.result c.match-start.start c.args.there c.in-Some-extent.extent _ c.sector_in-first.ensures c.in_err-size-in-Some-extent.ensures.refused))

pub returns-in_ok-size-in-Some-extent-clause-ok : goal.returns-in_ok-size-in-Some-extent-clause-ok
returns-in_ok-size-in-Some-extent-clause-ok c =
    let start : IsStart c.in_ok-scale.scale c.args.start c.match-start.start = elim c.match-start.branch [
      | in-Some+in_ok-sector-in-Some w ↦
          some_start c.in_ok-scale.scale c.args.start c.match-start.start w.in-Some.position w.in_ok-sector-in-Some.field-0 w.in-Some.is w.start-is w.in_ok-sector-in-Some.ensures.ok
      | in-None w ↦ none_start c.in_ok-scale.scale c.args.start c.match-start.start w.in-None.is w.start-is
    ] in
    record {
      scale = c.in_ok-scale.scale;
      is_scale = c.in_ok-scale.ensures.ok;
      start_is = start;
      size_is = some_size c.in_ok-scale.scale c.sector_in-first.result c.match-start.start c.args.there c.args.extent c.in-Some-extent.extent c.in_ok-size-in-Some-extent.field-0 c.sector_in-first.ensures c.in-Some-extent.is
          c.in_ok-size-in-Some-extent.ensures.ok;
    }

pub returns-in-None-extent-clause-ok : goal.returns-in-None-extent-clause-ok
returns-in-None-extent-clause-ok c =
    let start : IsStart c.in_ok-scale.scale c.args.start c.match-start.start = elim c.match-start.branch [
      | in-Some+in_ok-sector-in-Some w ↦
          some_start c.in_ok-scale.scale c.args.start c.match-start.start w.in-Some.position w.in_ok-sector-in-Some.field-0 w.in-Some.is w.start-is w.in_ok-sector-in-Some.ensures.ok
      | in-None w ↦ none_start c.in_ok-scale.scale c.args.start c.match-start.start w.in-None.is w.start-is
    ] in
    record {
      scale = c.in_ok-scale.scale;
      is_scale = c.in_ok-scale.ensures.ok;
      start_is = start;
      size_is = none_size c.in_ok-scale.scale (sector_in c.match-start.start) c.args.there c.args.extent c.in-None-extent.is;
    }
