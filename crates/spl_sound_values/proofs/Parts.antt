-- Parts of lists of uses, the scope of rules that has a code's names, and places that are seen.
use Rattle.std.proofs.Common.{◌≡◌, ℕ, ◌+◌, ◌≤◌, ◌==◌, ◌&&◌, ◌||◌, not, nat_lt, nat_le, Bool, true, false, List, [], ◌∷◌, ◌++◌, refl, sym, ap, ◌∙◌, arith}
use Rattle.std.proofs.lemmas.Bool.{and_from, lt-ltb, le-leb, eqb-true, leb-true}
use Rattle.spl_shapes.specs.spl_tree.Trees as tree
use Rattle.spl_shapes.specs.spl_tree.Trees.{Tree, Trees}
use Rattle.spl_near_places.specs.spl_meaning.Names.{Names}
use Rattle.spl_near_places.specs.spl_meaning.Places.{Place, data_word, above_base, below_base, below_return}
use Rattle.spl_near_places.specs.spl_meaning.References.{Setting}
use Rattle.spl_near_places.specs.spl_meaning.Values.{Who}
use Rattle.spl_near_places.specs.spl_meaning.ExpressionRules as rule
use Rattle.spl_near_places.specs.spl_meaning.ExpressionRules.{count}
use Rattle.spl_near_places.specs.spl_code.Calls.{Scope}
use Rattle.spl_covered.specs.spl_tops.Seen.{is_seen}
use Rattle.spl_near_places.specs.Near.{IsNear, is_framed}
use Rattle.spl_near_places.specs.spl_places.Programs.{Each}
use Rattle.spl_near_places.proofs.spl_sound_names_proofs.Tables.{never}
use Rattle.spl_sound_values.specs.Seen.{Seen}

-- ---- lists

-- what is so of each of two lists
pub each_left : {A : Type 0} (P : A → Type 0) (xs ys : List A) → Each P (xs ++ ys) → Each P xs
each_left P [] ys all = tt
each_left P (x ∷ xs) ys all = (all.0, each_left P xs ys all.1)

pub each_right : {A : Type 0} (P : A → Type 0) (xs ys : List A) → Each P (xs ++ ys) → Each P ys
each_right P [] ys all = all
each_right P (x ∷ xs) ys all = each_right P xs ys all.1

-- no index is none, and one at most is none or one
pub no_index : (es : Trees) → (count es == 0) ≡ true → es ≡ tree.Trees.none
no_index tree.Trees.none is = refl
no_index (tree.Trees.and e es) is = absurd (omega (arith, eqb-true (1 + count es) 0 is))

pub one_index : (e : Tree) (es : Trees) → nat_le (count (tree.Trees.and e es)) 1 ≡ true → es ≡ tree.Trees.none
one_index e tree.Trees.none is = refl
one_index e (tree.Trees.and f es) is = absurd (omega (arith, leb-true (1 + (1 + count es)) 1 is))

-- ---- tests

-- one test follows from another
pub implies : (b d : Bool) → (not b || d) ≡ true → b ≡ true → d ≡ true
implies true d is first = is
implies false d is first = never first

-- one of two tests is, and it is not the first
pub other : (b d : Bool) → (b || d) ≡ true → b ≡ false → d ≡ true
other true d is none = never (sym none)
other false d is none = is

-- what is not
pub not_so : (b : Bool) → not b ≡ true → b ≡ false
not_so true is = never is
not_so false is = refl

-- ---- scopes

-- the scope of rules with the names of a code and the mode of a setting
abbrev pub ruled : Scope → Setting → rule.Scope → rule.Scope
ruled c st sc = record { names = c.names; is_local = sc.is_local; results = sc.results; split = st.split; is_main = sc.is_main }

-- it is that of what is seen
pub ruled_same : (c : Scope) (st : Setting) (sc : rule.Scope) → sc.names ≡ c.names → sc.split ≡ st.split → sc ≡ ruled c st sc
ruled_same c st sc names split =
    ap (λ (ns : Names). record { names = ns; is_local = sc.is_local; results = sc.results; split = sc.split; is_main = sc.is_main }) names
    ∙ ap (λ (b : Bool). record { names = c.names; is_local = sc.is_local; results = sc.results; split = b; is_main = sc.is_main }) split

pub ruled_seen : (may : Who → Bool) (c : Scope) (st : Setting) (sc : rule.Scope) → Seen may c st sc → Seen may c st (ruled c st sc)
ruled_seen may c st sc s = record {
  names = refl;
  split = refl;
  known = s.known;
  placed = s.placed;
  near = s.near;
  fixed = s.fixed;
  local = s.local;
  framed = s.framed;
  plain = s.plain;
  kinds = s.kinds;
  intrinsics = s.intrinsics;
  entries = s.entries;
  subroutines = s.subroutines;
}

-- ---- places

-- A place that is near is seen: in a split procedure it stands in the frame, and a word below the return word is within reach of the top.
pub near_seen : (st : Setting) (k : ℕ) (p : Place) → IsNear st p → (st.split ≡ true → is_framed p ≡ true)
    → ((j : ℕ) → p ≡ below_return j → k + j ≤ 63) → is_seen st k p ≡ true
near_seen st k (data_word a) near framed beneath = and_from (not st.split) (nat_lt a 256) (no_data st.split framed) (lt-ltb a 256 near)
  where
    no_data : (b : Bool) → (b ≡ true → false ≡ true) → not b ≡ true
    no_data true h = h refl
    no_data false h = refl
near_seen st k (above_base j) near framed beneath = lt-ltb j 128 (omega (arith, near.1))
near_seen st k (below_base j) near framed beneath =
    and_from (nat_lt j 64) (nat_le j st.below) (lt-ltb j 64 (omega (arith, near.0))) (le-leb j st.below near.1)
near_seen st k (below_return j) near framed beneath =
    let most = beneath j refl in
    and_from st.inside (nat_le j st.held && nat_lt (k + j) 64) near.1
    (and_from (nat_le j st.held) (nat_lt (k + j) 64) (le-leb j st.held near.0) (lt-ltb (k + j) 64 (omega (arith, most))))
