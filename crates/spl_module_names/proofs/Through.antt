-- What the segmenter counts and names is told by the outlines of modules: all but words.
-- 1. main bodies, names that may be called, wants, and segments                 (mains_are to names_are)
-- 2. the entries of a segment, whose offsets do not matter                      (entries_are)
-- 3. so modules of the same outlines have the same of each                      (Same)
use Rattle.std.proofs.Common.{◌≡◌, ℕ, ◌+◌, nat_eq, Bool, true, false, if◌then◌else◌, List, [], ◌∷◌, ◌++◌, map, length, Option, Some, None, refl, sym, ap, ◌∙◌}
use Rattle.std.specs.Prelude.{◌||◌, ◌&&◌, not, is_some, option_map}
use Rattle.std.specs.Cmp.Lexicographic.{pointwise}
use Rattle.std.proofs.lemmas.List.{map-append, length-map}
use Rattle.spl_built.specs.spl_branch.declared.modules.Define.{Define}
use Rattle.spl_built.specs.spl_branch.declared.modules.Want.{Want}
use Rattle.spl_built.specs.spl_branch.declared.modules.Module.{Module}
use Rattle.spl_built.specs.mpe_segmenter.Names.{is_among, with_name, segment_of, names_from, segment_names, modules_of, Part, part_from, parts}
use Rattle.spl_built.specs.mpe_segmenter.Entries.{Own, own_of, main_of, owns, called_at, Wanted, wanted_of, is_met, with_want, wants_from, all_wants}
use Rattle.spl_built.specs.mpe_segmenter.Counts.{entries_in}
use Rattle.spl_built.specs.mpe_segmenter.Faults.{mains, define_names, callables, first_unmet, or_name, unmet_from, unresolved}
use Rattle.spl_module_names.specs.Outlines.{Defined, defined_of, Outline, outline_of, counted, SegmentsHaveOneCount}
use Rattle.spl_module_names.proofs.OutlineLaws.{one_outline}

-- ---- 1. main bodies, and names

mains_by : List Outline → ℕ
mains_by [] = 0
mains_by (o ∷ os) = (if o.main then 1 else 0) + mains_by os

mains_are : (ms : List Module) → mains ms ≡ mains_by (map outline_of ms)
unfolding mains_by
mains_are [] = refl
mains_are (m ∷ ms) = ap (λ n. (if is_some m.main then 1 else 0) + n) (mains_are ms)

names_by : List Defined → List (List ℕ)
names_by [] = []
names_by (d ∷ ds) = if d.callable then d.name ∷ names_by ds else names_by ds

define_names_are : (ds : List Define) → define_names ds ≡ names_by (map defined_of ds)
unfolding names_by
define_names_are [] = refl
define_names_are (d ∷ ds) = ap (λ ns. if d.callable then d.name.text.items ∷ ns else ns) (define_names_are ds)

callables_by : List Outline → List (List ℕ)
callables_by [] = []
callables_by (o ∷ os) = names_by o.defines ++ callables_by os

callables_are : (ms : List Module) → callables ms ≡ callables_by (map outline_of ms)
unfolding callables_by
callables_are [] = refl
callables_are (m ∷ ms) = let first = define_names_are m.defines.items in let rest = callables_are ms in (λ i. first i ++ rest i)

unmet_by : List (List ℕ) → List Wanted → Option (List ℕ)
unmet_by names [] = None
unmet_by names (w ∷ ws) = if w.gate || is_among w.name names then unmet_by names ws else Some w.name

first_unmet_is : (names : List (List ℕ)) (ws : List Want) → first_unmet names ws ≡ unmet_by names (map wanted_of ws)
unfolding unmet_by
first_unmet_is names [] = refl
first_unmet_is names (w ∷ ws) =
    ap (λ (o : Option (List ℕ)). if w.gate || is_among w.name.text.items names then o else Some w.name.text.items) (first_unmet_is names ws)

unresolved_by : List (List ℕ) → List Outline → Option (List ℕ)
unresolved_by names [] = None
unresolved_by names (o ∷ os) = or_name (unmet_by names o.wants) (unresolved_by names os)

unmet_are : (names : List (List ℕ)) (ms : List Module) → unmet_from names ms ≡ unresolved_by names (map outline_of ms)
unfolding unresolved_by
unmet_are names [] = refl
unmet_are names (m ∷ ms) = let first = first_unmet_is names m.wants.items in let rest = unmet_are names ms in (λ i. or_name (first i) (rest i))

segments_by : List (List ℕ) → List Outline → List (List ℕ)
segments_by names [] = names
segments_by names (o ∷ os) = segments_by (with_name names o.segment) os

names_are : (names : List (List ℕ)) (ms : List Module) → names_from names ms ≡ segments_by names (map outline_of ms)
unfolding segments_by
names_are names [] = refl
names_are names (m ∷ ms) = names_are (with_name names (segment_of m)) ms

-- ---- 2. the entries of a segment

-- the outlines of its modules
there_by : List ℕ → List Outline → List Outline
there_by name [] = []
there_by name (o ∷ os) = if pointwise nat_eq name o.segment then o ∷ there_by name os else there_by name os

map_if : {A B : Type 0} (f : A → B) (b : Bool) (x : A) (xs : List A) → map f (if b then x ∷ xs else xs) ≡ (if b then f x ∷ map f xs else map f xs)
map_if f true x xs = refl
map_if f false x xs = refl

modules_are : (name : List ℕ) (ms : List Module) → map outline_of (modules_of name ms) ≡ there_by name (map outline_of ms)
unfolding there_by
modules_are name [] = refl
modules_are name (m ∷ ms) =
    map_if outline_of (pointwise nat_eq name (segment_of m)) m (modules_of name ms)
    ∙ ap (λ os. if pointwise nat_eq name (segment_of m) then outline_of m ∷ os else os) (modules_are name ms)

-- an entry but for its offset
level : Own → Own
level o = record { name = o.name; callable = o.callable; offset = 0 }

own_by : Defined → Own
own_by d = record { name = d.name; callable = d.callable; offset = 0 }

main_by : Bool → List Own
main_by true = record { name = []; callable = false; offset = 0 } ∷ []
main_by false = []

owns_by : List Outline → List Own
owns_by [] = []
owns_by (o ∷ os) = map own_by o.defines ++ main_by o.main ++ owns_by os

defines_level : (base : ℕ) (ds : List Define) → map level (map (own_of base) ds) ≡ map own_by (map defined_of ds)
unfolding level own_by
defines_level base [] = refl
defines_level base (d ∷ ds) = ap (λ os. own_by (defined_of d) ∷ os) (defines_level base ds)

main_level : (base : ℕ) (o : Option ℕ) → map level (main_of base o) ≡ main_by (is_some o)
unfolding level main_by
main_level base None = refl
main_level base (Some n) = refl

owns_level : (base : ℕ) (ms : List Module) → map level (owns base ms) ≡ owns_by (map outline_of ms)
unfolding owns_by
owns_level base [] = refl
owns_level base (m ∷ ms) =
    let defines = defines_level base m.defines.items in
    let main = main_level base m.main in
    let rest = owns_level (base + m.size) ms in
    map-append level (map (own_of base) m.defines.items ++ main_of base m.main) (owns (base + m.size) ms)
    ∙ ap (λ os. os ++ map level (owns (base + m.size) ms)) (map-append level (map (own_of base) m.defines.items) (main_of base m.main))
    ∙ (λ i. defines i ++ main i ++ rest i)

-- offsets do not matter to who may be called, and so not to what is wanted
called_level : (name : List ℕ) (os : List Own) → called_at name (map level os) ≡ called_at name os
unfolding level
called_level name [] = refl
called_level name (o ∷ os) = ap (λ (k : Option ℕ). if o.callable && pointwise nat_eq name o.name then Some 0 else option_map (λ n. 1 + n) k) (called_level name os)

wants_level : (os : List Own) (vs ws : List Wanted) → wants_from (map level os) vs ws ≡ wants_from os vs ws
wants_level os vs [] = refl
wants_level os vs (w ∷ ws) =
    ap (λ (k : Option ℕ). wants_from (map level os) (if not w.gate && is_some k then vs else with_want vs w) ws) (called_level w.name os)
    ∙ wants_level os (if is_met os w then vs else with_want vs w) ws

wants_by : List Outline → List Wanted
wants_by [] = []
wants_by (o ∷ os) = o.wants ++ wants_by os

wants_are : (ms : List Module) → all_wants ms ≡ wants_by (map outline_of ms)
unfolding wants_by
wants_are [] = refl
wants_are (m ∷ ms) = ap (λ ws. map wanted_of m.wants.items ++ ws) (wants_are ms)

entries_by : List Outline → ℕ
entries_by os = length (owns_by os) + length (wants_from (owns_by os) [] (wants_by os))

entries_are : (p : Part) → entries_in p ≡ entries_by (map outline_of p.modules)
unfolding entries_by
entries_are p =
    let own = owns_level 0 p.modules in
    let wants = wants_are p.modules in
    let many = sym (length-map (owns 0 p.modules) level) ∙ ap length own in
    let wanted = sym (wants_level (owns 0 p.modules) [] (all_wants p.modules)) ∙ (λ i. wants_from (own i) [] (wants i)) in
    (λ i. many i + length (wanted i))

counted_by : List Outline → List ℕ → List ℕ × ℕ
counted_by os name = (name, entries_by (there_by name os))

counted_is : (ms : List Module) (name : List ℕ) → counted (part_from ms name) ≡ counted_by (map outline_of ms) name
unfolding counted_by
counted_is ms name =
    let count = entries_are (part_from ms name) ∙ ap entries_by (modules_are name ms) in
    (λ i. (name, count i))

parts_are : (ms : List Module) (names : List (List ℕ)) → map counted (map (part_from ms) names) ≡ map (counted_by (map outline_of ms)) names
parts_are ms [] = refl
parts_are ms (name ∷ names) = let first = counted_is ms name in let rest = parts_are ms names in (λ i. first i ∷ rest i)

-- ---- 3. modules of the same outlines

pub record Same (ms ns : List Module) : Type 0 where
  pub mains : mains ms ≡ mains ns
  pub callables : callables ms ≡ callables ns
  pub unresolved : unresolved ms ≡ unresolved ns
  pub segments : segment_names ms ≡ segment_names ns
  pub counts : map counted (parts ms) ≡ map counted (parts ns)

pub same : (ms ns : List Module) → map outline_of ms ≡ map outline_of ns → Same ms ns
same ms ns e =
    let called = callables_are ms ∙ ap callables_by e ∙ sym (callables_are ns) in
    let named = names_are [] ms ∙ ap (segments_by []) e ∙ sym (names_are [] ns) in
    record {
      mains = mains_are ms ∙ ap mains_by e ∙ sym (mains_are ns);
      callables = called;
      unresolved = unmet_are (callables ms) ms ∙ (λ i. unresolved_by (called i) (e i)) ∙ sym (unmet_are (callables ns) ns);
      segments = named;
      counts = parts_are ms (segment_names ms) ∙ (λ i. map (counted_by (e i)) (named i)) ∙ sym (parts_are ns (segment_names ns));
    }

pub one_count : SegmentsHaveOneCount
one_count us ms ns are others = (same ms ns (one_outline us ms ns are others)).counts
