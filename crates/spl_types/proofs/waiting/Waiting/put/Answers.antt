use Rattle.std.proofs.Common.{ℕ, List, map, Some, ap, ◌∙◌}
use Rattle.std.specs.Prelude.{if◌then◌else◌}
use Rattle.arrayvec.specs.ArrayVec.{ArrayVec}
use Rattle.spl_sound.specs.spl_meaning.Names.{find, same_name}
use Rattle.spl_sorts.specs.declared.profiles.Profile.{Profile}
use Rattle.std.specs.Prelude.{Option}
use Rattle.spl_types.specs.WaitingNames.{kept, entry_of, joined, waits_of}
use Rattle.spl_types.proofs.Inserts.{inserted}
use Rattle.spl_types.proofs.waiting.Waiting.put.Goals as goal

-- name by name
pub returns : goal.returns
returns c i y = (
    ap (λ (es : List (ArrayVec ℕ × Option Profile)). joined (find (map entry_of es) y)) c.in_ok-insert.ensures.entries
    ∙ inserted c.args.self.now.by_name.entries c.copy.result.text (Some c.args.profile) y
    ∙ ap (λ (x : List ℕ). if same_name y x then kept (Some c.args.profile) else waits_of c.args.self.now y) c.copy.ensures) i
