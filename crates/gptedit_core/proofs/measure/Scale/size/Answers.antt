use Rattle.std.proofs.Common.{rules, refl}
use Rattle.std.proofs.lemmas.Result.{err_from_is_err_and}
use Rattle.gptedit_core.specs.Measuring.IsSized.{counted}
use Rattle.gptedit_core.proofs.Counts.{longer_counted, longer_refused, shorter_counted, shorter_refused, until_counted, until_refused, whole_counted}
use Rattle.gptedit_core.proofs.measure.Scale.size.Goals as goal

pub returns-in_err-measured-in-Some-clause-refused : goal.returns-in_err-measured-in-Some-clause-refused
returns-in_err-measured-in-Some-clause-refused c =
    let p = err_from_is_err_and c.from_residual-in_err-measured-in-Some.result c.from_residual-in_err-measured-in-Some.ensures.1 in
    rw (p.1, p.2)
    (until_refused c.args.self c.args.start c.args.there c.args.extent c.in-Some.first c.in-End.position _ c.in-End.is (search rules) c.in_err-measured-in-Some.ensures.refused)

pub returns-in_err-measured-in-Some-there-clause-refused : goal.returns-in_err-measured-in-Some-there-clause-refused
returns-in_err-measured-in-Some-there-clause-refused c =
    let p = err_from_is_err_and c.from_residual-in_err-measured-in-Some-there.result c.from_residual-in_err-measured-in-Some-there.ensures.1 in
    rw (p.1, p.2)
    (longer_refused c.args.self c.args.start c.args.there c.args.extent c.in-Some-there.range c.in-More.measure _ c.in-More.is c.in-Some-there.is c.in_err-measured-in-Some-there.ensures.refused)

pub returns-in_err-measured-in-Some-there-2-clause-refused : goal.returns-in_err-measured-in-Some-there-2-clause-refused
returns-in_err-measured-in-Some-there-2-clause-refused c =
    let p = err_from_is_err_and c.from_residual-in_err-measured-in-Some-there-2.result c.from_residual-in_err-measured-in-Some-there-2.ensures.1 in
    rw (p.1, p.2)
    (shorter_refused c.args.self c.args.start c.args.there c.args.extent c.in-Some-there-2.range c.in-Less.measure _ c.in-Less.is c.in-Some-there-2.is c.in_err-measured-in-Some-there-2.ensures.refused)

pub returns-in_ok-measured-in-Size-clause-ok : goal.returns-in_ok-measured-in-Size-clause-ok
returns-in_ok-measured-in-Size-clause-ok c =
    counted c.in_ok-measured-in-Size.measured
    (whole_counted c.args.self c.args.start c.args.there c.args.extent c.in-Size.measure c.in_ok-measured-in-Size.measured c.in-Size.is c.in_ok-measured-in-Size.ensures.ok) refl refl

pub returns-in_ok-measured-in-Some-clause-ok : goal.returns-in_ok-measured-in-Some-clause-ok
returns-in_ok-measured-in-Some-clause-ok c =
    counted c.in_ok-measured-in-Some.measured
    (until_counted c.args.self c.args.start c.args.there c.args.extent c.in-Some.first c.in-End.position c.in_ok-measured-in-Some.measured c.in-End.is (search rules) c.in_ok-measured-in-Some.ensures.ok)
    refl refl

pub returns-in_ok-measured-in-Some-there-clause-ok : goal.returns-in_ok-measured-in-Some-there-clause-ok
returns-in_ok-measured-in-Some-there-clause-ok c =
    counted c.in_ok-measured-in-Some-there.measured
    (longer_counted c.args.self c.args.start c.args.there c.args.extent c.in-Some-there.range c.in-More.measure c.in_ok-measured-in-Some-there.measured c.in-More.is c.in-Some-there.is
    c.in_ok-measured-in-Some-there.ensures.ok)
    refl refl

pub returns-in_ok-measured-in-Some-there-2-clause-ok : goal.returns-in_ok-measured-in-Some-there-2-clause-ok
returns-in_ok-measured-in-Some-there-2-clause-ok c =
    counted c.in_ok-measured-in-Some-there-2.measured
    (shorter_counted c.args.self c.args.start c.args.there c.args.extent c.in-Some-there-2.range c.in-Less.measure c.in_ok-measured-in-Some-there-2.measured c.in-Less.is c.in-Some-there-2.is
    c.in_ok-measured-in-Some-there-2.ensures.ok)
    refl refl
