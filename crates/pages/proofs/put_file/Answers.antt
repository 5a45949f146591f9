-- `pages::put_file` meets its contract: after k turns the first k pages are written.
use Rattle.std.proofs.Common.{refl, ◌∙◌, arith}
use Rattle.pages.proofs.Writing.{part_le, pages-none, page-more, file_law}
use Rattle.pages.proofs.put_file.Goals as goal

pub loop-k-init : goal.loop-k-init
loop-k-init c = record { long = refl; put = pages-none c.args.rule.now c.args.out.now }

pub page_of-p-requires : goal.page_of-p-requires
page_of-p-requires c =
    part_le c.args.rule.now c.piece.result.now c.loop-k.k c.piece.ensures

pub loop-k-preserved : goal.loop-k-preserved
loop-k-preserved c =
    let a = c.args in
    let l = c.loop-k in
    record {
      long = c.copy_at.auto.dst ∙ l.invariant.long;
      put = page-more a.rule.now a.out.now l.out c.copy_at.new.dst _ c.piece.result.now l.k c.piece.ensures c.page_of-p.ensures (omega arith) l.invariant.put c.copy_at.ensures;
    }

pub returns : goal.returns
returns c =
    let l = c.loop-k in
    let a = c.args in
    file_law a.rule.now a.out.now l.out l.k (omega arith) l.invariant.put
