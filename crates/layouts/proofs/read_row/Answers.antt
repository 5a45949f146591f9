-- What the line and the record of a row say is read off them.
use mathlib.Core.Path.{sym, ap, ◌∙◌}
use native.Mathlib.Omega.{arith}
use lib.IntN.{nat_abs}
use lib.ListN.{length}
use Rattle.definitions.specs.Values.{values_in}
use Rattle.definitions.proofs.Values.{words-length, values-again}
use Rattle.layouts.proofs.Looks.{line-fits, row-few, row_fits, is_row, get_block, get-begun, get-count, get-labels, get_vars, fetched, fetched-length, as_number, mask-all}
use Rattle.layouts.proofs.read_row.Goals as goal

pub columns_at-vars-requires : goal.columns_at-vars-requires
columns_at-vars-requires c =
    let p = c.requires in
    (omega (arith, p.known.variables, p.known.proper.few), omega (arith, line-fits p, mask-all p.known))

pub record_at-at-requires : goal.record_at-at-requires
record_at-at-requires c =
    (row-few c.requires c.number-row.result c.number-row.ensures, c.requires.known.quota)

pub overflow_add-at : goal.overflow_add-at
overflow_add-at c =
    omega (arith, row_fits c.requires c.number-row.result c.number-row.ensures c.record_at-at.result c.record_at-at.ensures)

pub number-begun-requires : goal.number-begun-requires
number-begun-requires c =
    (omega (arith, row_fits c.requires c.number-row.result c.number-row.ensures c.record_at-at.result c.record_at-at.ensures), as_number _ _ (get-begun c.requires c.number-row.result c.number-row.ensures c.record_at-at.result c.record_at-at.ensures))

pub overflow_add-at-2 : goal.overflow_add-at-2
overflow_add-at-2 c =
    let a = c.record_at-at in
    omega (arith, row_fits c.requires c.number-row.result c.number-row.ensures a.result a.ensures)

pub number-count-requires : goal.number-count-requires
number-count-requires c =
    let a = c.record_at-at in
    (omega (arith, row_fits c.requires c.number-row.result c.number-row.ensures a.result a.ensures), as_number _ _ (get-count c.requires c.number-row.result c.number-row.ensures a.result a.ensures))

pub overflow_add-at-3 : goal.overflow_add-at-3
overflow_add-at-3 c =
    let a = c.record_at-at in
    omega (arith, row_fits c.requires c.number-row.result c.number-row.ensures a.result a.ensures)

pub fetch-labels-requires : goal.fetch-labels-requires
fetch-labels-requires c =
    let a = c.record_at-at in
    let p = c.requires in
    let e = c.number-count.ensures ∙ ap nat_abs (get-count p c.number-row.result c.number-row.ensures a.result a.ensures) in
    (omega (arith, e, p.at.sound.labels-few, p.known.quota), omega (arith, e, p.at.sound.labels-few, row_fits p c.number-row.result c.number-row.ensures a.result a.ensures))

pub returns : goal.returns
returns c = λ p.
    let row = c.number-row.result in
    let at = c.record_at-at.result in
    let e = c.number-row.ensures in
    let ea = c.record_at-at.ensures in
    let count = c.number-count.ensures ∙ ap nat_abs (get-count p row e at ea) in
    let labels = get-labels p row e at ea c.number-count.result c.number-count.ensures in
    let size = ap length labels ∙ words-length p.at.state.labels ∙ sym count in
    record {
      row = is_row p row e;
      begun = c.number-begun.ensures ∙ ap nat_abs (get-begun p row e at ea);
      count = count;
      block = c.number-block.ensures ∙ ap nat_abs (get_block p);
      labels' = rw c.fetch-labels.ensures (ap values_in (fetched _ _ size ∙ labels) ∙ values-again p.at.state.labels);
      room = rw c.fetch-labels.ensures (fetched-length _ _ size (omega (arith, count, p.at.sound.labels-few, p.known.quota)));
      vars' = get_vars p c.columns_at-vars.result c.columns_at-vars.ensures;
    }
