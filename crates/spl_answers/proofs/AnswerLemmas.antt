-- An answer is a value once its condition code is no longer known.
use Rattle.std.proofs.Common.{ℕ, ◌-◌, List, refl}
use Rattle.spl_intrinsics.specs.hp_session.State.{Machine}
use Rattle.spl_intrinsics.specs.hp_word.Intrinsics.{answer_words}
use Rattle.spl_intrinsics.specs.spl_meaning.References.{Setting}
use Rattle.spl_intrinsics.specs.spl_meaning.Serving.{served}
use Rattle.spl_intrinsics.specs.spl_meaning.States.{Data, Outcome, done, leaves, spent, ends, strays, then_go, code_dropped}
use Rattle.spl_intrinsics.specs.spl_follow.Spots.{Spot, pos, Ground}
use Rattle.spl_intrinsics.specs.spl_follow.Matching.{IsValue, IsAnswer}
use Rattle.spl_intrinsics.specs.spl_follow.Following.{Rate, Tally, tally_with, Follows, NoExit}
use Rattle.spl_intrinsics.proofs.AskLemmas.{asked_follows}
use Rattle.spl_answers.specs.Laws.{AnswersSimulate}

dropped : (g : Ground) (w : Rate) (c lag e : ℕ) (u : Tally) (st : Setting) (q : Spot) (n k : ℕ) (d : Data) (m m0 : Machine) (o : Outcome (List ℕ))
    → Follows g w c lag e u m (IsAnswer st q n k d m0) NoExit o → Follows g w c lag e u m (IsValue st q n k d m0) NoExit (code_dropped o)
dropped g w c lag e u st q n k d m m0 (done vs s) f =
    let a = f.2 in
    (f.0, f.1, record { at = a.at; wide = a.wide; matches = a.matches; stand = a.stand; small = a.small; kept = a.kept; silent = refl })
dropped g w c lag e u st q n k d m m0 (leaves x s) f = f
dropped g w c lag e u st q n k d m m0 (spent s) f = f
dropped g w c lag e u st q n k d m m0 (ends x s) f = f
dropped g w c lag e u st q n k d m m0 (strays s) f = f

pub answers_give : AnswersSimulate
answers_give z d k need i x a words y = record {
  does = λ h ws p q s l m stands front ready.
      dropped z.ground z.rate (pos q - pos p.at) 1 z.rate.reach (tally_with l s) z.setting q (answer_words i) k s.now m m (then_go (words s) (λ us t. served i us t))
      (asked_follows z d k need i x a words y h ws p q s l m stands front ready);
}
