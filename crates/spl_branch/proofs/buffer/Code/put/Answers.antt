-- A piece that is put is formed and names a mark that was made; a mark that it sets was not set.
use Rattle.std.proofs.Common.{◌≡◌, true, ◌++◌, ◌∷◌, [], refl, set}
use Rattle.spl_branch.specs.Pieces.{is_formed, with_mark}
use Rattle.spl_branch.proofs.MarkLemmas.{Kept, kept_put, all_more, with_other}
use Rattle.spl_branch.proofs.buffer.Code.put.Goals as goal

pub invariant_of-self-in-Mark : goal.invariant_of-self-in-Mark
invariant_of-self-in-Mark c =
    let more : c.push.new.self.items ≡ c.args.self.now.pieces.items ++ c.args.piece ∷ [] = c.in_ok-push.ensures.items in
    let marks : set c.args.self.now.marks.items c.in-Mark.mark true ≡ with_mark c.args.self.now.marks.items c.args.piece = rw c.in-Mark.is refl in
    let kept : Kept c.push.new.self.items (set c.args.self.now.marks.items c.in-Mark.mark true) = kept_put c.args.self.now.pieces.items c.args.self.now.marks.items c.args.piece c.push.new.self.items _ more marks c.requires.made c.requires.settable c.args.self.now.made c.args.self.now.in_step in
    record { keyed = c.args.self.now.keyed; made = kept.made; formed = rw more (all_more is_formed c.args.self.now.pieces.items c.args.piece c.args.self.now.formed c.requires.formed); in_step = kept.in_step }

pub invariant_of-self-in_default : goal.invariant_of-self-in_default
invariant_of-self-in_default c =
    let more : c.push.new.self.items ≡ c.args.self.now.pieces.items ++ c.args.piece ∷ [] = c.in_ok-push.ensures.items in
    let marks : c.args.self.now.marks.items ≡ with_mark c.args.self.now.marks.items c.args.piece = with_other c.args.self.now.marks.items c.args.piece c.in_default.not-Mark in
    let kept : Kept c.push.new.self.items c.args.self.now.marks.items = kept_put c.args.self.now.pieces.items c.args.self.now.marks.items c.args.piece c.push.new.self.items _ more marks c.requires.made c.requires.settable c.args.self.now.made c.args.self.now.in_step in
    record { keyed = c.args.self.now.keyed; made = kept.made; formed = rw more (all_more is_formed c.args.self.now.pieces.items c.args.piece c.args.self.now.formed c.requires.formed); in_step = kept.in_step }
