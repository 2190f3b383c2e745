-- A mark that is made is named by no piece, and not set.
use Rattle.std.proofs.Common.{is_ok}
use Rattle.spl_branch.proofs.MarkLemmas.{Kept, kept_fresh}
use Rattle.spl_branch.proofs.buffer.Code.fresh.Goals as goal

pub invariant_of-self : goal.invariant_of-self
invariant_of-self c =
    let kept : Kept c.args.self.now.pieces.items c.push.new.self.items = kept_fresh c.args.self.now.pieces.items c.args.self.now.marks.items c.push.new.self.items (is_ok c.push.result) c.push.ensures.items c.args.self.now.made c.args.self.now.in_step in
    record { keyed = c.args.self.now.keyed; made = kept.made; formed = c.args.self.now.formed; in_step = kept.in_step }
