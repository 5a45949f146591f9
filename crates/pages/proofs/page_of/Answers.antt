-- `pages::page_of` meets its contract: length, payload and check put into 512 zeros are the page.
use Rattle.std.proofs.Common.{refl}
use Rattle.pages.proofs.Page.{page_law}
use Rattle.pages.proofs.page_of.Goals as goal

pub returns : goal.returns
returns c =
    page_law c.args.src.now c.args.number _ c.check-c.result _ _ _ c.requires refl c.put16_at.ensures c.copy_at.ensures c.check-c.ensures c.put16_at-2.ensures
