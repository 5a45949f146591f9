-- `pages::unpack` meets its contract: after k turns what the first k pages hold is written.
use Rattle.std.proofs.Common.{◌/◌, length, refl, ap, ◌∙◌, arith, length-append}
use Rattle.definitions.specs.Pages.{page_size, payload_to}
use Rattle.definitions.specs.Calls.{bytes_in}
use Rattle.pages.proofs.Reading.{size_is, ready-size, ready, turn-short, turn-fits, turn_more, turn-over, unpack_law, bytes-none, bytes-length}
use Rattle.pages.proofs.unpack.Goals as goal

pub loop-k-init : goal.loop-k-init
loop-k-init c =
    let a = c.args in
    let P = length a.file.now / page_size in
    record { held = bytes-length a.file.now P; long = refl; put = bytes-none a.file.now a.out.now P }

pub page_in-requires : goal.page_in-requires
page_in-requires c =
    omega (arith, size_is (length c.args.file.now) (ready-size c.args.file.now (length c.args.out.now) c.requires))

pub payload-part-requires : goal.payload-part-requires
payload-part-requires c =
    let file = c.args.file.now in
    let room = length c.args.out.now in
    (c.page_in.ensures.1, turn-short file (length file / page_size) c.loop-k.k room (omega arith) (ready file room c.requires) c.page_in.result.now c.page_in.ensures.0)

pub copy_at-requires : goal.copy_at-requires
copy_at-requires c =
    let file = c.args.file.now in
    let room = length c.args.out.now in
    omega (arith, turn-fits file (length file / page_size) c.loop-k.k room (omega arith) (ready file room c.requires) c.page_in.result.now c.page_in.ensures.0 c.payload-part.result.now c.payload-part.ensures)

pub overflow_add-at : goal.overflow_add-at
overflow_add-at c =
    let file = c.args.file.now in
    let room = length c.args.out.now in
    omega (arith, turn-fits file (length file / page_size) c.loop-k.k room (omega arith) (ready file room c.requires) c.page_in.result.now c.page_in.ensures.0 c.payload-part.result.now c.payload-part.ensures)

pub loop-k-preserved : goal.loop-k-preserved
loop-k-preserved c =
    let l = c.loop-k in
    let file = c.args.file.now in
    let out = c.args.out.now in
    let P = length file / page_size in
    let part = c.payload-part.result.now in
    let f = ready file (length out) c.requires in
    let m = turn_more file P l.k (length out) (omega arith) f c.page_in.result.now c.page_in.ensures.0 part c.payload-part.ensures in
    record {
      held = omega (arith, ap length m ∙ length-append (bytes_in (payload_to file P l.k)) part);
      long = c.copy_at.auto.dst ∙ l.invariant.long;
      put = turn-over file P l.k (length out) (omega arith) f c.page_in.result.now c.page_in.ensures.0 part c.payload-part.ensures out l.out c.copy_at.new.dst l.at refl l.invariant.held l.invariant.put c.copy_at.ensures;
    }

pub returns : goal.returns
returns c =
    let l = c.loop-k in
    unpack_law c.args.file.now (length c.args.out.now) c.requires c.args.out.now l.out l.k (omega arith) l.invariant.put
