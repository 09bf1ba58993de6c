use Rattle.std.proofs.Common.{length, ◌∙◌, arith}
use Rattle.frame.proofs.Columns.{rows_check, columns_below}
use Rattle.frame.proofs.syndromes.check_sums.Goals as goal

pub sum_rows-requires-clause-columns_below : goal.sum_rows-requires-clause-columns_below
sum_rows-requires-clause-columns_below g c =
    columns_below g.F.Field.ops g.met.F.Field.lawful c.args.m (length c.args.row.now) c.args.square_locators.now c.args.array.now c.column_sums.new.columns c.column_sums.ensures.value (omega arith)

pub returns : goal.returns
returns g c =
    record {
      value = record {
        sums = λ h i l k. c.sum_rows.ensures.value.sums h i l k
            ∙ rows_check g.F.Field.ops g.met.F.Field.lawful c.args.m (length c.args.row.now) c.args.strip_locators.now c.args.square_locators.now c.args.array.now c.column_sums.new.columns
            c.requires.strips c.requires.squares c.requires.strips_size c.requires.squares_size c.requires.below c.column_sums.ensures.value h i l;
      };
    }
