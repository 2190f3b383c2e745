-- The procedures of a list that breaks no rule, for a name: it stands for none yet, or for one that waits for its body, or for one that is done.
-- 1. done                  (none_behind)
-- 2. it waits              (waits_alike)
-- 3. new                   (new_alike)
use Rattle.std.proofs.Common.{◌≡◌, ◌⊎◌, inl, inr, ℕ, zero, suc, ◌+◌, ◌||◌, not, Bool, true, false, if◌then◌else◌, List, [], ◌∷◌, ◌++◌, Option, Some, None, refl, sym, ap, subst, ◌∙◌}
use Rattle.std.specs.List.{slice_get}
use Rattle.std.specs.Cmp.Lexicographic.{same_text}
use Rattle.spl_ruled_bodies.specs.spl_tree.DeclarationTrees as decl
use Rattle.spl_ruled_bodies.specs.spl_tree.DeclarationTrees.{Declaration, Declarations, Heading}
use Rattle.spl_ruled_bodies.specs.spl_tree.StatementTrees.{Statement}
use Rattle.spl_ruled_bodies.specs.spl_meaning.Names as n
use Rattle.spl_ruled_bodies.specs.spl_meaning.Names.{Sort, Table, Profile, find, same_name, nothing_declared, profile_of}
use Rattle.spl_ruled_bodies.specs.spl_meaning.Tables.{Routine, with_declaration, with_declarations, routines_among}
use Rattle.spl_ruled_bodies.specs.spl_meaning.Stops.{declaration_stops}
use Rattle.spl_ruled_bodies.specs.spl_meaning.Faults.{unless}
use Rattle.spl_ruled_bodies.specs.spl_meaning.ExpressionRules.{Scope}
use Rattle.spl_ruled_bodies.specs.spl_meaning.DeclarationRules.{Waiting, without, gets_body, same_profile, twice, heading_faults, external_faults, procedure_by, procedure_faults, subroutine_faults, global_faults, globals_faults, waiting_behind}
use Rattle.spl_routes.specs.spl_routines.Among.{IsIn, at_front, behind}
use Rattle.spl_ruled_bodies.proofs.spl_sound_names_proofs.Tables.{left_none, right_none, unless_none, never, kept_declarations}
use Rattle.spl_ruled_bodies.proofs.spl_sound_names_proofs.Walks.{around_unit}
use Rattle.spl_ruled_bodies.proofs.Routines.{procedure_of}
use Rattle.spl_sound_headings.proofs.Declared.{sort_same, declared_new, declared_other, kept_one, clash_twice, is_procedure, no_procedure, find_without, profile_self}

module _ (sub : Bool) (sc : Scope) (others : List Routine) (x : List ℕ) where
  -- the procedures of a list, behind others
  abbrev pub Among : Table Sort → ℕ → Declarations → List Routine
  Among t m ds = routines_among t m ds

  -- none of some has the name
  abbrev pub NoneNamed : List Routine → Type 0
  NoneNamed rs = (j : ℕ) (r : Routine) → slice_get rs j ≡ Some r → same_name x r.heading.name ≡ false

  -- one of them has it, and a heading that is alike
  pub record OneAlike (rs : List Routine) (q : Profile) : Type 0 where
    pub place : ℕ
    pub its : Routine
    pub there : slice_get rs place ≡ Some its
    pub name : same_name x its.heading.name ≡ true
    pub alike : same_profile q (profile_of its.heading) ≡ true

  -- none has, and those of other units that have it are alike
  pub record OthersAlike (rs : List Routine) (q : Profile) : Type 0 where
    pub none : NoneNamed rs
    pub alike : (r : Routine) → IsIn r others → same_name x r.heading.name ≡ true → same_profile q (profile_of r.heading) ≡ true

  -- the rules of a declaration, and of those behind it
  record Split (w : Waiting) (t : Table Sort) (d : Declaration) (ds : Declarations) : Type 0 where
    one : global_faults (around_unit sub) sc others w t d ds ≡ []
    rest : globals_faults (around_unit sub) sc others (waiting_behind w d) (with_declaration nothing_declared t d) ds ≡ []

  split : (w : Waiting) (t : Table Sort) (d : Declaration) (ds : Declarations) → globals_faults (around_unit sub) sc others w t (decl.and d ds) ≡ [] → Split w t d ds
  split w t d ds none =
      let of_d = global_faults (around_unit sub) sc others w t d ds in
      let of_rest = globals_faults (around_unit sub) sc others (waiting_behind w d) (with_declaration nothing_declared t d) ds in
      record { one = left_none of_d of_rest none; rest = right_none of_d of_rest none }

  -- headings are new
  forward_new : (w : Waiting) (t : Table Sort) (h : Heading) (ds : Declarations) → global_faults (around_unit sub) sc others w t (decl.Declaration.forward h) ds ≡ [] → twice t h.name h.at ≡ []
  forward_new w t h ds none =
      let head = heading_faults h.split h in
      left_none (twice t h.name h.at) head (left_none (twice t h.name h.at ++ head) (unless (gets_body ds h.name) 19 h.at) none)

  forward_gets : (w : Waiting) (t : Table Sort) (h : Heading) (ds : Declarations) → global_faults (around_unit sub) sc others w t (decl.Declaration.forward h) ds ≡ [] → gets_body ds h.name ≡ true
  forward_gets w t h ds none =
      unless_none (gets_body ds h.name) 19 h.at (right_none (twice t h.name h.at ++ heading_faults h.split h) (unless (gets_body ds h.name) 19 h.at) none)

  external_new : (w : Waiting) (t : Table Sort) (h : Heading) (ds : Declarations) → global_faults (around_unit sub) sc others w t (decl.Declaration.external h) ds ≡ [] → twice t h.name h.at ≡ []
  external_new w t h ds none =
      let head = heading_faults h.split h in
      left_none (twice t h.name h.at) head (left_none (twice t h.name h.at ++ head) (external_faults h others) none)

  external_others : (w : Waiting) (t : Table Sort) (h : Heading) (ds : Declarations) → global_faults (around_unit sub) sc others w t (decl.Declaration.external h) ds ≡ []
      → external_faults h others ≡ []
  external_others w t h ds none = right_none (twice t h.name h.at ++ heading_faults h.split h) (external_faults h others) none

  inner_new : (w : Waiting) (t : Table Sort) (h : Heading) (s : Statement) (ds : Declarations)
      → global_faults (around_unit sub) sc others w t (decl.Declaration.subroutine h s) ds ≡ [] → twice t h.name h.at ≡ []
  inner_new w t h s ds none =
      let first = twice t h.name h.at in
      let allowed = unless (not sub) 28 h.at in
      left_none first allowed (left_none (first ++ allowed) (subroutine_faults sc h s) none)

  -- a procedure: its name is new, or waits for a body with such a heading
  procedure_by_none : (w : Waiting) (t : Table Sort) (h : Heading) (items : Declarations) (ss : List Statement) (ds : Declarations)
      → global_faults (around_unit sub) sc others w t (decl.Declaration.procedure h items ss) ds ≡ [] → procedure_by t (find w h.name) h ≡ []
  procedure_by_none w t h items ss ds none =
      left_none (procedure_by t (find w h.name) h) (procedure_faults (with_declaration nothing_declared t (decl.Declaration.procedure h items ss)) h items ss) none

  -- where the name is that of the procedure, and nothing waits for it
  procedure_new : (w : Waiting) (t : Table Sort) (h : Heading) → procedure_by t (find w h.name) h ≡ [] → same_name x h.name ≡ true → find w x ≡ None → twice t h.name h.at ≡ []
  procedure_new w t h none same free =
      sym (ap (λ (o : Option Profile). procedure_by t o h) (ap (find w) (sym (same_text x h.name (sym same))) ∙ free)) ∙ none

  -- of procedures of a list, the first has another name
  with_first : (r : Routine) (rs : List Routine) → same_name x r.heading.name ≡ false → NoneNamed rs → NoneNamed (r ∷ rs)
  with_first r rs other none zero s is = subst (λ (y : Routine). same_name x y.heading.name ≡ false) (routine_same r s is) other
    where
      routine_same : (a b : Routine) → Some a ≡ Some b → a ≡ b
      routine_same a b e = cc
  with_first r rs other none (suc j) s is = none j s is

  -- ---- 1. done

  -- a name that is there and does not wait is that of no procedure behind: each declaration of it would be a second one
  pub none_behind : (w : Waiting) (t : Table Sort) (m : ℕ) (ds : Declarations) → globals_faults (around_unit sub) sc others w t ds ≡ [] → (u : Sort) → find t x ≡ Some u
      → find w x ≡ None → NoneNamed (routines_among t m ds)
  none_behind w t m decl.none none u there free = λ j r is. cc
  none_behind w t m (decl.and (decl.Declaration.procedure h items ss) ds) none u there free =
      let d = decl.Declaration.procedure h items ss in
      let k = split w t d ds none in
      let by_name = procedure_by_none w t h items ss ds k.one in
      by (same_name x h.name) refl by_name
      (λ other. none_behind (without w h.name) (with_declaration nothing_declared t d) (m + declaration_stops d) ds k.rest u (kept_one nothing_declared t d x u there)
      (find_without w h.name x other ∙ free))
    where
      by : (b : Bool) → same_name x h.name ≡ b → procedure_by t (find w h.name) h ≡ []
          → (same_name x h.name ≡ false → NoneNamed (routines_among (with_declaration nothing_declared t (decl.Declaration.procedure h items ss)) (m + declaration_stops (decl.Declaration.procedure h items ss)) ds))
          → NoneNamed (procedure_of t m h items ss ∷ routines_among (with_declaration nothing_declared t (decl.Declaration.procedure h items ss)) (m + declaration_stops (decl.Declaration.procedure h items ss)) ds)
      by true same by_name rest = clash_twice t h.name h.at x u (procedure_new w t h by_name same free) there same
      by false same by_name rest =
          with_first (procedure_of t m h items ss) (routines_among (with_declaration nothing_declared t (decl.Declaration.procedure h items ss)) (m + declaration_stops (decl.Declaration.procedure h items ss)) ds)
          same (rest same)
  none_behind w t m (decl.and (decl.Declaration.forward h) ds) none u there free =
      let d = decl.Declaration.forward h in
      let k = split w t d ds none in
      by (same_name x h.name) refl (forward_new w t h ds k.one)
      (λ free'. none_behind ((h.name, profile_of h) ∷ w) (with_declaration nothing_declared t d) (m + declaration_stops d) ds k.rest u (kept_one nothing_declared t d x u there) free')
    where
      by : (b : Bool) → same_name x h.name ≡ b → twice t h.name h.at ≡ []
          → (find ((h.name, profile_of h) ∷ w) x ≡ None → NoneNamed (routines_among (with_declaration nothing_declared t (decl.Declaration.forward h)) (m + declaration_stops (decl.Declaration.forward h)) ds))
          → NoneNamed (routines_among (with_declaration nothing_declared t (decl.Declaration.forward h)) (m + declaration_stops (decl.Declaration.forward h)) ds)
      by true same new rest = clash_twice t h.name h.at x u new there same
      by false same new rest = rest (ap (λ (c : Bool). if c then Some (profile_of h) else find w x) same ∙ free)
  none_behind w t m (decl.and (decl.Declaration.external h) ds) none u there free =
      let d = decl.Declaration.external h in
      none_behind w (with_declaration nothing_declared t d) (m + declaration_stops d) ds (split w t d ds none).rest u (kept_one nothing_declared t d x u there) free
  none_behind w t m (decl.and (decl.Declaration.subroutine h s) ds) none u there free =
      let d = decl.Declaration.subroutine h s in
      none_behind w (with_declaration nothing_declared t d) (m + declaration_stops d) ds (split w t d ds none).rest u (kept_one nothing_declared t d x u there) free
  none_behind w t m (decl.and (decl.Declaration.data_items own k items) ds) none u there free =
      let d = decl.Declaration.data_items own k items in
      none_behind w (with_declaration nothing_declared t d) (m + declaration_stops d) ds (split w t d ds none).rest u (kept_one nothing_declared t d x u there) free
  none_behind w t m (decl.and (decl.Declaration.equate es) ds) none u there free =
      let d = decl.Declaration.equate es in
      none_behind w (with_declaration nothing_declared t d) (m + declaration_stops d) ds (split w t d ds none).rest u (kept_one nothing_declared t d x u there) free
  none_behind w t m (decl.and (decl.Declaration.intrinsic xs) ds) none u there free =
      let d = decl.Declaration.intrinsic xs in
      none_behind w (with_declaration nothing_declared t d) (m + declaration_stops d) ds (split w t d ds none).rest u (kept_one nothing_declared t d x u there) free
  none_behind w t m (decl.and (decl.Declaration.label xs) ds) none u there free =
      let d = decl.Declaration.label xs in
      none_behind w (with_declaration nothing_declared t d) (m + declaration_stops d) ds (split w t d ds none).rest u (kept_one nothing_declared t d x u there) free

  -- ---- 2. it waits

  -- one of those behind another
  later_one : (r : Routine) (rs : List Routine) (q : Profile) → OneAlike rs q → OneAlike (r ∷ rs) q
  later_one r rs q k = record { place = suc k.place; its = k.its; there = k.there; name = k.name; alike = k.alike }

  -- the first of them
  first_one : (r : Routine) (rs : List Routine) (q : Profile) → same_name x r.heading.name ≡ true → same_profile q (profile_of r.heading) ≡ true → OneAlike (r ∷ rs) q
  first_one r rs q name alike = record { place = 0; its = r; there = refl; name = name; alike = alike }

  -- one that waits gets its body, whose heading the rule compares with that of its FORWARD
  pub waits_alike : (w : Waiting) (t : Table Sort) (m : ℕ) (ds : Declarations) → globals_faults (around_unit sub) sc others w t ds ≡ [] → (u : Sort) (q : Profile)
      → find t x ≡ Some u → find w x ≡ Some q → gets_body ds x ≡ true → OneAlike (routines_among t m ds) q
  waits_alike w t m decl.none none u q there waits gets = never gets
  waits_alike w t m (decl.and (decl.Declaration.procedure h items ss) ds) none u q there waits gets =
      let d = decl.Declaration.procedure h items ss in
      let k = split w t d ds none in
      by (same_name x h.name) refl (procedure_by_none w t h items ss ds k.one) gets
      (λ other body. waits_alike (without w h.name) (with_declaration nothing_declared t d) (m + declaration_stops d) ds k.rest u q (kept_one nothing_declared t d x u there)
      (find_without w h.name x other ∙ waits) body)
    where
      rest : List Routine
      rest = routines_among (with_declaration nothing_declared t (decl.Declaration.procedure h items ss)) (m + declaration_stops (decl.Declaration.procedure h items ss)) ds

      by : (b : Bool) → same_name x h.name ≡ b → procedure_by t (find w h.name) h ≡ [] → (if b then true else gets_body ds x) ≡ true
          → (same_name x h.name ≡ false → gets_body ds x ≡ true → OneAlike rest q) → OneAlike (procedure_of t m h items ss ∷ rest) q
      by true same by_name body later =
          first_one (procedure_of t m h items ss) rest q same
          (unless_none (same_profile q (profile_of h)) 19 h.at
          (sym (ap (λ (o : Option Profile). procedure_by t o h) (ap (find w) (sym (same_text x h.name (sym same))) ∙ waits)) ∙ by_name))
      by false same by_name body later = later_one (procedure_of t m h items ss) rest q (later same body)
  waits_alike w t m (decl.and (decl.Declaration.forward h) ds) none u q there waits gets =
      let d = decl.Declaration.forward h in
      let k = split w t d ds none in
      by (same_name x h.name) refl (forward_new w t h ds k.one)
      (λ waits'. waits_alike ((h.name, profile_of h) ∷ w) (with_declaration nothing_declared t d) (m + declaration_stops d) ds k.rest u q (kept_one nothing_declared t d x u there) waits' gets)
    where
      rest : List Routine
      rest = routines_among (with_declaration nothing_declared t (decl.Declaration.forward h)) (m + declaration_stops (decl.Declaration.forward h)) ds

      by : (b : Bool) → same_name x h.name ≡ b → twice t h.name h.at ≡ [] → (find ((h.name, profile_of h) ∷ w) x ≡ Some q → OneAlike rest q) → OneAlike rest q
      by true same new later = clash_twice t h.name h.at x u new there same
      by false same new later = later (ap (λ (c : Bool). if c then Some (profile_of h) else find w x) same ∙ waits)
  waits_alike w t m (decl.and (decl.Declaration.external h) ds) none u q there waits gets =
      let d = decl.Declaration.external h in
      waits_alike w (with_declaration nothing_declared t d) (m + declaration_stops d) ds (split w t d ds none).rest u q (kept_one nothing_declared t d x u there) waits gets
  waits_alike w t m (decl.and (decl.Declaration.subroutine h s) ds) none u q there waits gets =
      let d = decl.Declaration.subroutine h s in
      waits_alike w (with_declaration nothing_declared t d) (m + declaration_stops d) ds (split w t d ds none).rest u q (kept_one nothing_declared t d x u there) waits gets
  waits_alike w t m (decl.and (decl.Declaration.data_items own k items) ds) none u q there waits gets =
      let d = decl.Declaration.data_items own k items in
      waits_alike w (with_declaration nothing_declared t d) (m + declaration_stops d) ds (split w t d ds none).rest u q (kept_one nothing_declared t d x u there) waits gets
  waits_alike w t m (decl.and (decl.Declaration.equate es) ds) none u q there waits gets =
      let d = decl.Declaration.equate es in
      waits_alike w (with_declaration nothing_declared t d) (m + declaration_stops d) ds (split w t d ds none).rest u q (kept_one nothing_declared t d x u there) waits gets
  waits_alike w t m (decl.and (decl.Declaration.intrinsic xs) ds) none u q there waits gets =
      let d = decl.Declaration.intrinsic xs in
      waits_alike w (with_declaration nothing_declared t d) (m + declaration_stops d) ds (split w t d ds none).rest u q (kept_one nothing_declared t d x u there) waits gets
  waits_alike w t m (decl.and (decl.Declaration.label xs) ds) none u q there waits gets =
      let d = decl.Declaration.label xs in
      waits_alike w (with_declaration nothing_declared t d) (m + declaration_stops d) ds (split w t d ds none).rest u q (kept_one nothing_declared t d x u there) waits gets

  -- ---- 3. new

  -- a procedure before those of others
  later_others : (r : Routine) (rs : List Routine) (q : Profile) → same_name x r.heading.name ≡ false → OthersAlike rs q → OthersAlike (r ∷ rs) q
  later_others r rs q other k = record { none = with_first r rs other k.none; alike = k.alike }

  -- either of both, behind another procedure
  later_either : (r : Routine) (rs : List Routine) (q : Profile) → same_name x r.heading.name ≡ false → OneAlike rs q ⊎ OthersAlike rs q
      → OneAlike (r ∷ rs) q ⊎ OthersAlike (r ∷ rs) q
  later_either r rs q other (inl k) = inl (later_one r rs q k)
  later_either r rs q other (inr k) = inr (later_others r rs q other k)

  -- what is declared as a procedure has its heading, and is no subroutine
  procedure_sort : (p q : Profile) → Some (n.procedure p) ≡ Some (n.procedure q) → p ≡ q
  procedure_sort p q is = cc

  no_inner : {A : Type 0} (p q : Profile) → Some (n.subroutine p) ≡ Some (n.procedure q) → A
  no_inner p q is = cc

  -- a name that is declared otherwise
  no_other : {A : Type 0} (u : Sort) (q : Profile) → is_procedure u ≡ false → Some u ≡ Some (n.procedure q) → A
  no_other u q other is = never (sym other ∙ ap is_procedure (sort_same u (n.procedure q) is))

  -- a name is there, or it is not
  silent : {A : Type 0} (o : Option Sort) {f : Option Sort} → f ≡ o → ((u : Sort) → f ≡ Some u → A) → (f ≡ None → A) → A
  silent (Some u) is some none = some u is
  silent None is some none = none is

  -- a heading that is like those of other units
  others_alike : (h : Heading) (rs : List Routine) → external_faults h rs ≡ [] → same_name x h.name ≡ true → (r : Routine) → IsIn r rs → same_name x r.heading.name ≡ true
      → same_profile (profile_of h) (profile_of r.heading) ≡ true
  others_alike h [] none same r among named = elim among [ ]
  others_alike h (y ∷ rs) none same r among named =
      let one = unless (not (same_name h.name y.heading.name) || same_profile (profile_of h) (profile_of y.heading)) 19 h.at in
      by among (unless_none (not (same_name h.name y.heading.name) || same_profile (profile_of h) (profile_of y.heading)) 19 h.at (left_none one (external_faults h rs) none))
      (λ rest. others_alike h rs (right_none one (external_faults h rs) none) same r rest named)
    where
      second : (a b : Bool) → (not a || b) ≡ true → a ≡ true → b ≡ true
      second true b is holds = is
      second false b is holds = never holds

      by : IsIn r (y ∷ rs) → (not (same_name h.name y.heading.name) || same_profile (profile_of h) (profile_of y.heading)) ≡ true
          → (IsIn r rs → same_profile (profile_of h) (profile_of r.heading) ≡ true) → same_profile (profile_of h) (profile_of r.heading) ≡ true
      by (at_front is) fits rest =
          subst (λ (z : Routine). same_profile (profile_of h) (profile_of z.heading) ≡ true) (sym is)
          (second (same_name h.name y.heading.name) (same_profile (profile_of h) (profile_of y.heading)) fits
          (ap (λ (z : List ℕ). same_name z y.heading.name) (sym (same_text x h.name (sym same))) ∙ ap (λ (z : Routine). same_name x z.heading.name) (sym is) ∙ named))
      by (behind later) fits rest = rest later

  -- a name that is new: the declaration of that name is a procedure, a FORWARD with its body, or an EXTERNAL
  pub new_alike : (w : Waiting) (t : Table Sort) (m : ℕ) (ds : Declarations) → globals_faults (around_unit sub) sc others w t ds ≡ [] → find t x ≡ None → find w x ≡ None
      → (q : Profile) → find (with_declarations nothing_declared t ds) x ≡ Some (n.procedure q)
      → OneAlike (routines_among t m ds) q ⊎ OthersAlike (routines_among t m ds) q
  new_alike w t m decl.none none new free q is = none_some (sym new ∙ is)
    where
      none_some : {A : Type 0} → None ≡ Some (n.procedure q) → A
      none_some e = cc
  new_alike w t m (decl.and (decl.Declaration.procedure h items ss) ds) none new free q is =
      let d = decl.Declaration.procedure h items ss in
      let k = split w t d ds none in
      by (same_name x h.name) refl
      (λ same. sym (kept_declarations nothing_declared (with_declaration nothing_declared t d) ds x (n.procedure (profile_of h)) (declared_new t h.name (n.procedure (profile_of h)) x new same)) ∙ is)
      (λ other. new_alike (without w h.name) (with_declaration nothing_declared t d) (m + declaration_stops d) ds k.rest
      (declared_other t h.name (n.procedure (profile_of h)) x new other) (find_without w h.name x other ∙ free) q is)
    where
      rest : List Routine
      rest = routines_among (with_declaration nothing_declared t (decl.Declaration.procedure h items ss)) (m + declaration_stops (decl.Declaration.procedure h items ss)) ds

      by : (b : Bool) → same_name x h.name ≡ b → (same_name x h.name ≡ true → Some (n.procedure (profile_of h)) ≡ Some (n.procedure q))
          → (same_name x h.name ≡ false → OneAlike rest q ⊎ OthersAlike rest q)
          → OneAlike (procedure_of t m h items ss ∷ rest) q ⊎ OthersAlike (procedure_of t m h items ss ∷ rest) q
      by true same own later =
          inl (first_one (procedure_of t m h items ss) rest q same
          (ap (λ (p : Profile). same_profile p (profile_of h)) (sym (procedure_sort (profile_of h) q (own same))) ∙ profile_self (profile_of h)))
      by false same own later = later_either (procedure_of t m h items ss) rest q same (later same)
  new_alike w t m (decl.and (decl.Declaration.forward h) ds) none new free q is =
      let d = decl.Declaration.forward h in
      let k = split w t d ds none in
      let behind_it = with_declaration nothing_declared t d in
      by (same_name x h.name) refl
      (λ same.
      let there = declared_new t h.name (n.procedure (profile_of h)) x new same in
      let own = procedure_sort (profile_of h) q (sym (kept_declarations nothing_declared behind_it ds x (n.procedure (profile_of h)) there) ∙ is) in
      waits_alike ((h.name, profile_of h) ∷ w) behind_it (m + declaration_stops d) ds k.rest (n.procedure (profile_of h)) q there
      (ap (λ (c : Bool). if c then Some (profile_of h) else find w x) same ∙ ap Some own)
      (ap (gets_body ds) (same_text x h.name (sym same)) ∙ forward_gets w t h ds k.one))
      (λ other. new_alike ((h.name, profile_of h) ∷ w) behind_it (m + declaration_stops d) ds k.rest (declared_other t h.name (n.procedure (profile_of h)) x new other)
      (ap (λ (c : Bool). if c then Some (profile_of h) else find w x) other ∙ free) q is)
    where
      rest : List Routine
      rest = routines_among (with_declaration nothing_declared t (decl.Declaration.forward h)) (m + declaration_stops (decl.Declaration.forward h)) ds

      by : (b : Bool) → same_name x h.name ≡ b → (same_name x h.name ≡ true → OneAlike rest q) → (same_name x h.name ≡ false → OneAlike rest q ⊎ OthersAlike rest q)
          → OneAlike rest q ⊎ OthersAlike rest q
      by true same own later = inl (own same)
      by false same own later = later same
  new_alike w t m (decl.and (decl.Declaration.external h) ds) none new free q is =
      let d = decl.Declaration.external h in
      let k = split w t d ds none in
      let behind_it = with_declaration nothing_declared t d in
      by (same_name x h.name) refl
      (λ same.
      let there = declared_new t h.name (n.procedure (profile_of h)) x new same in
      let own = procedure_sort (profile_of h) q (sym (kept_declarations nothing_declared behind_it ds x (n.procedure (profile_of h)) there) ∙ is) in
      record {
        none = none_behind w behind_it (m + declaration_stops d) ds k.rest (n.procedure (profile_of h)) there free;
        alike = λ r among named. ap (λ (p : Profile). same_profile p (profile_of r.heading)) (sym own) ∙ others_alike h others (external_others w t h ds k.one) same r among named;
      })
      (λ other. new_alike w behind_it (m + declaration_stops d) ds k.rest (declared_other t h.name (n.procedure (profile_of h)) x new other) free q is)
    where
      rest : List Routine
      rest = routines_among (with_declaration nothing_declared t (decl.Declaration.external h)) (m + declaration_stops (decl.Declaration.external h)) ds

      by : (b : Bool) → same_name x h.name ≡ b → (same_name x h.name ≡ true → OthersAlike rest q) → (same_name x h.name ≡ false → OneAlike rest q ⊎ OthersAlike rest q)
          → OneAlike rest q ⊎ OthersAlike rest q
      by true same own later = inr (own same)
      by false same own later = later same
  new_alike w t m (decl.and (decl.Declaration.subroutine h s) ds) none new free q is =
      let d = decl.Declaration.subroutine h s in
      let k = split w t d ds none in
      let behind_it = with_declaration nothing_declared t d in
      by (same_name x h.name) refl
      (λ same.
      sym (kept_declarations nothing_declared behind_it ds x (n.subroutine (profile_of h)) (declared_new t h.name (n.subroutine (profile_of h)) x new same)) ∙ is)
      (λ other. new_alike w behind_it (m + declaration_stops d) ds k.rest (declared_other t h.name (n.subroutine (profile_of h)) x new other) free q is)
    where
      rest : List Routine
      rest = routines_among (with_declaration nothing_declared t (decl.Declaration.subroutine h s)) (m + declaration_stops (decl.Declaration.subroutine h s)) ds

      by : (b : Bool) → same_name x h.name ≡ b → (same_name x h.name ≡ true → Some (n.subroutine (profile_of h)) ≡ Some (n.procedure q))
          → (same_name x h.name ≡ false → OneAlike rest q ⊎ OthersAlike rest q) → OneAlike rest q ⊎ OthersAlike rest q
      by true same own later = no_inner (profile_of h) q (own same)
      by false same own later = later same
  new_alike w t m (decl.and (decl.Declaration.data_items own k items) ds) none new free q is =
      let d = decl.Declaration.data_items own k items in
      let k = split w t d ds none in
      let behind_it = with_declaration nothing_declared t d in
      silent (find behind_it x) refl
      (λ u there. no_other u q (no_procedure nothing_declared t d refl x u new there) (sym (kept_declarations nothing_declared behind_it ds x u there) ∙ is))
      (λ new'. new_alike w behind_it (m + declaration_stops d) ds k.rest new' free q is)
  new_alike w t m (decl.and (decl.Declaration.equate es) ds) none new free q is =
      let d = decl.Declaration.equate es in
      let k = split w t d ds none in
      let behind_it = with_declaration nothing_declared t d in
      silent (find behind_it x) refl
      (λ u there. no_other u q (no_procedure nothing_declared t d refl x u new there) (sym (kept_declarations nothing_declared behind_it ds x u there) ∙ is))
      (λ new'. new_alike w behind_it (m + declaration_stops d) ds k.rest new' free q is)
  new_alike w t m (decl.and (decl.Declaration.intrinsic xs) ds) none new free q is =
      let d = decl.Declaration.intrinsic xs in
      let k = split w t d ds none in
      let behind_it = with_declaration nothing_declared t d in
      silent (find behind_it x) refl
      (λ u there. no_other u q (no_procedure nothing_declared t d refl x u new there) (sym (kept_declarations nothing_declared behind_it ds x u there) ∙ is))
      (λ new'. new_alike w behind_it (m + declaration_stops d) ds k.rest new' free q is)
  new_alike w t m (decl.and (decl.Declaration.label xs) ds) none new free q is =
      let d = decl.Declaration.label xs in
      let k = split w t d ds none in
      let behind_it = with_declaration nothing_declared t d in
      silent (find behind_it x) refl
      (λ u there. no_other u q (no_procedure nothing_declared t d refl x u new there) (sym (kept_declarations nothing_declared behind_it ds x u there) ∙ is))
      (λ new'. new_alike w behind_it (m + declaration_stops d) ds k.rest new' free q is)
