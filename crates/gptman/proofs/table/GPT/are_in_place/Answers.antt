use Rattle.std.proofs.Common.{rules, subst, sym, List, ℕ}
use Rattle.gptman_disk.specs.Ranges.{AreApart, AreInside}
use Rattle.gptman.specs.Table.{table_in}
use Rattle.gptman.proofs.Layouts.{four_at}
use Rattle.gptman.proofs.table.GPT.are_in_place.Goals as goal

pub returns-then-are_within : goal.returns-then-are_within
returns-then-are_within c =
    let same = four_at (table_in c.args.self.now) c.args.self.now.sector_size c.args.size c.at_sector-first.result.start c.at_sector-entries.result.start
    c.at_sector-second.result.start c.at_sector-others.result.start c.at_sector-first.result.length c.at_sector-entries.result.length c.at_sector-second.result.length
    c.at_sector-others.result.length (search rules) (search rules) (search rules) (search rules) (search rules) (search rules) (search rules) (search rules) in (
      λ yes. record {
        inside = subst (λ (rs : List (ℕ × ℕ)). AreInside rs c.args.size) same (c.are_within.ensures.0 c.if-are_within.true);
        apart = subst AreApart same (c.are_apart.ensures.0 yes);
        fits = search rules;
      },
      λ is. c.are_apart.ensures.1 (subst AreApart (sym same) is.apart),
    )
