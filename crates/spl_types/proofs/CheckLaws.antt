-- All units, one after the other.
use Rattle.std.proofs.Common.{ℕ, ◌≡◌, ◌<◌, ◌≤◌, ◌+◌, Bool, List, [], ◌∷◌, ◌++◌, map, length, get_or, drop, take, add-one, Option, None, refl, sym, ap, ◌∙◌}
use Rattle.std.specs.Prelude.{◌&&◌}
use Rattle.std.proofs.Math.Seq.{take-suc}
use Rattle.std.proofs.lemmas.List.{drop_all, take_all, map_push, take-map, drop-map, length-map}
use Rattle.spl_tree.specs.declared.units.SplUnit.{SplUnit}
use Rattle.spl_tree.specs.DeclarationTrees.{Heading}
use Rattle.spl_sound.specs.spl_meaning.Names.{profile_of}
use Rattle.spl_sound.specs.spl_meaning.Tables.{Source}
use Rattle.spl_sound.specs.spl_meaning.Bodies.{all_routines}
use Rattle.spl_sound.specs.spl_meaning.Faults.{Fault}
use Rattle.spl_sound.specs.spl_meaning.Sound.{IsSound, first_broken}
use Rattle.spl_sound.proofs.spl_meaning_proofs.FirstFaults.{sound_is}
use Rattle.spl_uses.proofs.spl_found_proofs.FoundUnits.{first_walked}
use Rattle.spl_uses.specs.spl_found.FoundUnits.{agree, walked_unit, walked_units}
use Rattle.spl_sound.specs.Spelled.{source_of}
use Rattle.spl_types.specs.declared.heads.Bodies.{Bodies}
use Rattle.spl_types.specs.HeadTables.{Heads, heads_of}
use Rattle.spl_types.specs.declared.others.Others.{Others}
use Rattle.spl_types.specs.OtherUnits.{all_agreed, agrees_of}
use Rattle.spl_types.specs.Checking.{unit_heads}
use Rattle.spl_types.proofs.SilentLaws.{front}
use Rattle.spl_types.proofs.HeadLaws.{agree_both}
use Rattle.spl_types.proofs.OtherLaws.{all_agree}

-- ---- the procedures of each unit

-- those of the units up to one
pub bodies_so_far : List SplUnit → ℕ → List Heads
bodies_so_far us i = map unit_heads (map source_of (take i us))

pub bodies_first : (us : List SplUnit) → bodies_so_far us 0 ≡ []
unfolding bodies_so_far
bodies_first us = refl

-- up to one more
one_more : (us : List SplUnit) (i : ℕ) (u : SplUnit) → i < length us → u ≡ get_or us i u → take (i + 1) us ≡ take i us ++ u ∷ []
one_more us i u lt is = rw (add-one i) (take-suc us i u lt) ∙ ap (λ (x : SplUnit). take i us ++ x ∷ []) (sym is)

pub bodies_step : (us : List SplUnit) (i : ℕ) (u : SplUnit) (bs cs : List Bodies) (b : Bodies) → i < length us → u ≡ get_or us i u
    → cs ≡ bs ++ b ∷ [] → map heads_of bs ≡ bodies_so_far us i → heads_of b ≡ unit_heads (source_of u) → map heads_of cs ≡ bodies_so_far us (i + 1)
unfolding bodies_so_far
bodies_step us i u bs cs b lt is pushed so_far one =
    ap (map heads_of) pushed ∙ map_push heads_of bs b
    ∙ ap (λ (hs : List Heads). hs ++ heads_of b ∷ []) so_far
    ∙ ap (λ (h : Heads). map unit_heads (map source_of (take i us)) ++ h ∷ []) one
    ∙ sym (ap (λ (vs : List SplUnit). map unit_heads (map source_of vs)) (one_more us i u lt is)
    ∙ ap (map unit_heads) (map_push source_of (take i us) u) ∙ map_push unit_heads (map source_of (take i us)) (source_of u))

pub bodies_end : (us : List SplUnit) (i : ℕ) → length us ≤ i → bodies_so_far us i ≡ map unit_heads (map source_of us)
unfolding bodies_so_far
bodies_end us i le = ap (λ (vs : List SplUnit). map unit_heads (map source_of vs)) (take_all i us le)

pub ruleset bodies_steps = (bodies_first, bodies_end)

-- ---- the rules of each unit

-- the procedures of all units but one
agree_others : (all : List Bodies) (us : List SplUnit) (i : ℕ) (h : Heading) → map heads_of all ≡ map unit_heads (map source_of us)
    → (all_agreed (map heads_of (take i all)) h.name (profile_of h) && all_agreed (map heads_of (drop (i + 1) all)) h.name (profile_of h))
    ≡ agree h (all_routines (map source_of (take i us)) ++ all_routines (map source_of (drop (i + 1) us)))
agree_others all us i h same =
    ap (λ (hs : List Heads). all_agreed hs h.name (profile_of h) && all_agreed (map heads_of (drop (i + 1) all)) h.name (profile_of h)) before
    ∙ ap (λ (hs : List Heads). all_agreed (map unit_heads (map source_of (take i us))) h.name (profile_of h) && all_agreed hs h.name (profile_of h)) behind
    ∙ ap (λ (b : Bool). b && all_agreed (map unit_heads (map source_of (drop (i + 1) us))) h.name (profile_of h)) (all_agree (map source_of (take i us)) h)
    ∙ ap (λ (b : Bool). agree h (all_routines (map source_of (take i us))) && b) (all_agree (map source_of (drop (i + 1) us)) h)
    ∙ sym (agree_both h (all_routines (map source_of (take i us))) (all_routines (map source_of (drop (i + 1) us))))
  where
    before : map heads_of (take i all) ≡ map unit_heads (map source_of (take i us))
    before = sym (take-map heads_of i all) ∙ ap (take i) same ∙ take-map unit_heads i (map source_of us) ∙ ap (map unit_heads) (take-map source_of i us)

    behind : map heads_of (drop (i + 1) all) ≡ map unit_heads (map source_of (drop (i + 1) us))
    behind = sym (drop-map heads_of (i + 1) all) ∙ ap (drop (i + 1)) same ∙ drop-map unit_heads (i + 1) (map source_of us) ∙ ap (map unit_heads) (drop-map source_of (i + 1) us)

-- what is found from a unit on
pub units_left : List SplUnit → ℕ → Option Fault → Option Fault
units_left us i f = walked_units (map source_of (take i us)) (map source_of (drop i us)) f

pub units_first : (us : List SplUnit) (f : Option Fault) → units_left us 0 f ≡ walked_units [] (map source_of us) f
unfolding units_left
units_first us f = refl

pub units_end : (us : List SplUnit) (i : ℕ) (f : Option Fault) → length us ≤ i → units_left us i f ≡ f
unfolding units_left
units_end us i f le = ap (λ (vs : List SplUnit). walked_units (map source_of (take i us)) (map source_of vs) f) (drop_all i us le)

-- a unit more, where the others' procedures are known
pub units_step : (all : List Bodies) (us : List SplUnit) (i : ℕ) (u : SplUnit) (o : Others) (f g : Option Fault) → map heads_of all ≡ map unit_heads (map source_of us)
    → i < length us → u ≡ get_or us i u → o.before.now ≡ take i all → o.behind.now ≡ drop (i + 1) all
    → g ≡ walked_unit (agrees_of o) (source_of u) f → units_left us i f ≡ units_left us (i + 1) g
unfolding units_left
units_step all us i u o f g same lt is before behind found =
    let xs = map source_of (take i us) in
    let ys = map source_of (drop (i + 1) us) in
    let as_all : (h : Heading) → agrees_of o h ≡ agree h (all_routines xs ++ all_routines ys) = λ h.
    ap (λ (bs : List Bodies). all_agreed (map heads_of bs) h.name (profile_of h) && all_agreed (map heads_of o.behind.now) h.name (profile_of h)) before
    ∙ ap (λ (bs : List Bodies). all_agreed (map heads_of (take i all)) h.name (profile_of h) && all_agreed (map heads_of bs) h.name (profile_of h)) behind
    ∙ agree_others all us i h same in
    let one : (λ (h : Heading). agree h (all_routines xs ++ all_routines ys)) ≡ agrees_of o = λ j h. sym (as_all h) j in
    ap (λ (vs : List SplUnit). walked_units xs (map source_of vs) f) (front us i u lt is)
    ∙ ap (λ (agrees : Heading → Bool). walked_units (xs ++ source_of u ∷ []) ys (walked_unit agrees (source_of u) f)) one
    ∙ ap (walked_units (xs ++ source_of u ∷ []) ys) (sym found)
    ∙ ap (λ (vs : List Source). walked_units vs ys g) (sym (ap (map source_of) (one_more us i u lt is) ∙ map_push source_of (take i us) u))

pub ruleset units_steps = (units_first, units_end)

-- ---- all units

-- as many units as lists of their procedures
pub same_lengths : (all : List Bodies) (us : List SplUnit) → map heads_of all ≡ map unit_heads (map source_of us) → length all ≡ length us
same_lengths all us same =
    sym (length-map all heads_of) ∙ ap length same ∙ length-map (map source_of us) unit_heads ∙ length-map us source_of

-- what is found in all is the first rule that they break
pub found_first : (us : List Source) (f : Option Fault) → f ≡ walked_units [] us None → f ≡ first_broken us
found_first us f e = e ∙ first_walked us

pub ruleset first_walk = (same_lengths, found_first)

-- units that break no first rule are sound
pub none_broken : (us : List Source) → first_broken us ≡ None → IsSound us
none_broken us e = (sound_is us).0 e

pub ruleset sound_units = none_broken
