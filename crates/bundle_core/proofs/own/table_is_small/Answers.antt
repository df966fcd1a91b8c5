use Rattle.bundle_core.proofs.own.table_is_small.Goals as goal

pub returns : goal.returns
returns c = record {
  products = c.row_is_small.ensures;
  a2b = c.row_is_small-2.ensures;
  a2y = c.row_is_small-3.ensures;
  b2a = c.row_is_small-4.ensures;
  b2y = c.row_is_small-5.ensures;
  y2a = c.row_is_small-6.ensures;
  y2b = c.row_is_small-7.ensures;
  b_and = c.number_is_small.ensures;
  b_level = c.number_is_small-2.ensures;
  y_and = c.number_is_small-3.ensures;
}
