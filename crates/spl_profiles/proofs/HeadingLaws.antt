-- What is asked through sets and tables of names is what the rules of headings ask.
use Rattle.std.proofs.Common.{◌≡◌, Bool, not, List, [], ◌∷◌, Option, Some, None, is_some, refl, ap, ◌∙◌}
use Rattle.std.specs.Prelude.{◌||◌}
use Rattle.spl_tree.specs.DeclarationTrees.{Placed, Spec, Heading}
use Rattle.spl_sorts.specs.spl_meaning.Names.{Formal, lists, spec_of, is_array_in, kind_in, formals_among, formals_of}
use Rattle.spl_sorts.specs.spl_meaning.Pending.{by_value}
use Rattle.spl_sorts.specs.spl_meaning.Faults.{Fault, unless, first_fault}
use Rattle.spl_sorts.specs.spl_meaning.StatementRules.{repeated}
use Rattle.spl_sorts.specs.spl_meaning.DeclarationRules as dr
use Rattle.spl_found.specs.FoundDeclarations.{found_heading}
use Rattle.spl_found.proofs.Order.{first_then}
use Rattle.spl_profiles.specs.NameSets.{Test}
use Rattle.spl_profiles.specs.Listings.{Said, said_by, said_in}
use Rattle.spl_profiles.specs.Headings.{found_failing, found_split, kind_said, array_said, no_array, is_said, formals_by}

-- what lists of kinds say of a name is what the first of them says that has it
kind_first : (o : Option Spec) → kind_said (said_by o) ≡ kind_in o
kind_first None = refl
kind_first (Some l) = refl

array_first : (o : Option Spec) → array_said (said_by o) ≡ is_array_in o
array_first None = refl
array_first (Some l) = refl

said_first : (o : Option Spec) → is_some (said_by o) ≡ is_some o
said_first None = refl
said_first (Some l) = refl

failing_is : (names xs : List Placed) (f : Option Fault) → found_failing (lists names) xs f ≡ first_fault f (dr.not_parameters names xs)
failing_is names [] f = refl
failing_is names (x ∷ xs) f = failing_is names xs (first_fault f (unless (lists names x.letters) 18 x.at)) ∙ simp first_then refl

arrays_are : (specs : List Spec) (xs : List Placed) (f : Option Fault) → found_failing (no_array (said_in specs)) xs f ≡ first_fault f (dr.array_values specs xs)
arrays_are specs [] f = refl
arrays_are specs (x ∷ xs) f =
    ap (λ (b : Bool). found_failing (no_array (said_in specs)) xs (first_fault f (unless (not b) 18 x.at))) (array_first (spec_of specs x.letters))
    ∙ arrays_are specs xs (first_fault f (unless (not (is_array_in (spec_of specs x.letters))) 18 x.at)) ∙ simp first_then refl

kinds_are : (specs : List Spec) (xs : List Placed) (f : Option Fault) → found_failing (is_said (said_in specs)) xs f ≡ first_fault f (dr.without_kind specs xs)
kinds_are specs [] f = refl
kinds_are specs (x ∷ xs) f =
    ap (λ (b : Bool). found_failing (is_said (said_in specs)) xs (first_fault f (unless b 18 x.at))) (said_first (spec_of specs x.letters))
    ∙ kinds_are specs xs (first_fault f (unless (is_some (spec_of specs x.letters)) 18 x.at)) ∙ simp first_then refl

split_is : (split : Bool) (ps : List Formal) (f : Option Fault) → found_split split ps f ≡ first_fault f (dr.split_parameters split ps)
split_is split [] f = refl
split_is split (p ∷ ps) f = split_is split ps (first_fault f (unless (not split || by_value p || not (is_some p.kind)) 27 p.at)) ∙ simp first_then refl

formals_are : (h : Heading) (xs : List Placed) → formals_by (said_in h.specs) (lists h.values) xs ≡ formals_among h xs
formals_are h [] = refl
formals_are h (x ∷ xs) =
    ap (λ (p : Formal). p ∷ formals_by (said_in h.specs) (lists h.values) xs) (λ i. record {
      name = x.letters;
      at = x.at;
      kind = kind_first (spec_of h.specs x.letters) i;
      array = array_first (spec_of h.specs x.letters) i;
      value = lists h.values x.letters;
    })
    ∙ ap (λ (ps : List Formal). p_of h x ∷ ps) (formals_are h xs)
  where
    p_of : Heading → Placed → Formal
    p_of h x = record {
      name = x.letters;
      at = x.at;
      kind = kind_in (spec_of h.specs x.letters);
      array = is_array_in (spec_of h.specs x.letters);
      value = lists h.values x.letters;
    }

-- parameters by sets and tables
pub formals_found : (h : Heading) (known : Said) (values : Test) (ps : List Formal) → known ≡ said_in h.specs → values ≡ lists h.values
    → ps ≡ formals_by known values h.names → ps ≡ formals_of h
formals_found h known values ps k v is =
    is ∙ ap (λ (s : Said). formals_by s values h.names) k ∙ ap (λ (t : Test). formals_by (said_in h.specs) t h.names) v ∙ formals_are h h.names

pub ruleset formals = formals_found

-- a heading, rule by rule
pub heading_found : (split : Bool) (h : Heading) (parameters values : Test) (known : Said) (ps : List Formal) (f f1 f2 f3 f4 f5 f6 f7 : Option Fault)
    → parameters ≡ lists h.names → known ≡ said_in h.specs → ps ≡ formals_of h
    → f1 ≡ first_fault f (repeated 2 [] h.names)
    → f2 ≡ found_failing parameters h.values f1 → f3 ≡ found_failing parameters (dr.all_listed h.specs) f2
    → f4 ≡ found_failing (no_array known) h.values f3 → f5 ≡ found_failing (is_said known) h.names f4
    → f6 ≡ first_fault f5 (repeated 18 [] (dr.all_listed h.specs)) → f7 ≡ found_split split ps f6
    → f7 ≡ found_heading split h f
heading_found split h parameters values known ps f f1 f2 f3 f4 f5 f6 f7 p k fs e1 e2 e3 e4 e5 e6 e7 =
    let g2 = e2 ∙ ap (λ (t : Test). found_failing t h.values f1) p ∙ failing_is h.names h.values f1 in
    let g3 = e3 ∙ ap (λ (t : Test). found_failing t (dr.all_listed h.specs) f2) p ∙ failing_is h.names (dr.all_listed h.specs) f2 in
    let g4 = e4 ∙ ap (λ (s : Said). found_failing (no_array s) h.values f3) k ∙ arrays_are h.specs h.values f3 in
    let g5 = e5 ∙ ap (λ (s : Said). found_failing (is_said s) h.names f4) k ∙ kinds_are h.specs h.names f4 in
    let g7 = e7 ∙ ap (λ (qs : List Formal). found_split split qs f6) fs ∙ split_is split (formals_of h) f6 in
    g7 ∙ ap (λ (e : Option Fault). first_fault e (dr.split_parameters split (formals_of h)))
    (e6 ∙ ap (λ (e : Option Fault). first_fault e (repeated 18 [] (dr.all_listed h.specs)))
    (g5 ∙ ap (λ (e : Option Fault). first_fault e (dr.without_kind h.specs h.names))
    (g4 ∙ ap (λ (e : Option Fault). first_fault e (dr.array_values h.specs h.values))
    (g3 ∙ ap (λ (e : Option Fault). first_fault e (dr.not_parameters h.names (dr.all_listed h.specs)))
    (g2 ∙ ap (λ (e : Option Fault). first_fault e (dr.not_parameters h.names h.values)) e1)))))
