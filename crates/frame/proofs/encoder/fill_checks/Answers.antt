use Rattle.std.proofs.Common.{◌+◌, ◌*◌, length, get_or, ap, ◌∙◌, arith}
use Rattle.laws.specs.Ops.{power}
use Rattle.solver.proofs.Parts.{sum_cong}
use Rattle.frame.specs.Tables.{column}
use Rattle.frame.proofs.Checks.{check_columns_below}
use Rattle.frame.proofs.encoder.fill_checks.Goals as goal

pub solve_strips-requires-clause-columns_below : goal.solve_strips-requires-clause-columns_below
solve_strips-requires-clause-columns_below g c =
    check_columns_below g.F.Field.ops c.args.m c.args.locators.now c.args.table.now c.check_columns.new.columns (c.check_columns.auto.columns ∙ c.requires.strips_size) c.check_columns.ensures.value

pub returns : goal.returns
returns g c =
    let F = g.F.Field.ops in
    let m = c.args.m in
    let points = c.args.locators.now in
    let squares = c.args.square_locators.now in
    let columns = c.check_columns.new.columns in
    let xs = c.solve_strips.new.columns in
    record {
      value = record {
        below = λ p l. c.solve_strips.ensures.value.below p (omega (arith, c.solve_strips.auto.columns, c.check_columns.auto.columns, c.requires.strips_size));
        sums = λ h i lh li.
            sum_cong F (length points) (λ t. F.mul (column F m squares xs t h) (power F (get_or points t 0) i)) (λ t. F.mul (get_or columns (t * m + h) 0) (power F (get_or points t 0) i))
            (λ t l. ap (λ x. F.mul x (power F (get_or points t 0) i)) (c.solve_strips.ensures.value.sums t h l lh))
            ∙ c.check_columns.ensures.value.sums h i lh li;
      };
    }
