-- The procedures of other units, one unit after the other.
use Rattle.std.proofs.Common.{ℕ, ◌≡◌, ◌<◌, ◌≤◌, ◌+◌, Bool, true, false, List, [], ◌∷◌, map, length, get_or, drop, refl, sym, ap, ◌∙◌}
use Rattle.std.specs.Prelude.{◌&&◌, if◌then◌else◌}
use Rattle.std.proofs.lemmas.List.{drop_all}
use Rattle.spl_tree.specs.DeclarationTrees.{Heading}
use Rattle.spl_sound.specs.spl_meaning.Names.{Profile, profile_of}
use Rattle.spl_sound.specs.spl_meaning.Tables.{Source, routines_of}
use Rattle.spl_sound.specs.spl_meaning.Bodies.{all_routines}
use Rattle.spl_uses.specs.spl_found.FoundUnits.{agree}
use Rattle.spl_types.specs.declared.heads.Bodies.{Bodies}
use Rattle.spl_types.specs.HeadTables.{agreed, heads_of}
use Rattle.spl_types.specs.OtherUnits.{all_agreed}
use Rattle.spl_types.specs.Checking.{unit_heads}
use Rattle.spl_types.proofs.SilentLaws.{front}
use Rattle.spl_types.proofs.HeadLaws.{unit_agrees, agree_both}

-- what is left from a unit on
pub left : List Bodies → ℕ → List ℕ → Profile → Bool
left us i x p = all_agreed (map heads_of (drop i us)) x p

pub left_first : (us : List Bodies) (x : List ℕ) (p : Profile) → left us 0 x p ≡ all_agreed (map heads_of us) x p
unfolding left
left_first us x p = refl

pub left_step : (us : List Bodies) (i : ℕ) (u : Bodies) (x : List ℕ) (p : Profile) → i < length us → u ≡ get_or us i u
    → left us i x p ≡ (if agreed (heads_of u) x p then left us (i + 1) x p else false)
unfolding left
left_step us i u x p lt is = ap (λ (rest : List Bodies). all_agreed (map heads_of rest) x p) (front us i u lt is)

pub left_end : (us : List Bodies) (i : ℕ) (x : List ℕ) (p : Profile) → length us ≤ i → left us i x p ≡ true
unfolding left
left_end us i x p le = ap (λ (rest : List Bodies). all_agreed (map heads_of rest) x p) (drop_all i us le)

pub ruleset agreed_steps = (left_first, left_step, left_end)

-- those of units
pub all_agree : (us : List Source) (h : Heading) → all_agreed (map unit_heads us) h.name (profile_of h) ≡ agree h (all_routines us)
all_agree [] h = refl
all_agree (u ∷ us) h = by (agreed (unit_heads u) h.name (profile_of h)) refl (all_agree us h) ∙ sym (agree_both h (routines_of u) (all_routines us))
  where
    by : (b : Bool) → agreed (unit_heads u) h.name (profile_of h) ≡ b
        → all_agreed (map unit_heads us) h.name (profile_of h) ≡ agree h (all_routines us)
        → (if b then all_agreed (map unit_heads us) h.name (profile_of h) else false) ≡ (agree h (routines_of u) && agree h (all_routines us))
    by true e rest = rest ∙ ap (λ (b : Bool). b && agree h (all_routines us)) (sym e ∙ unit_agrees u h)
    by false e rest = ap (λ (b : Bool). b && agree h (all_routines us)) (sym e ∙ unit_agrees u h)
