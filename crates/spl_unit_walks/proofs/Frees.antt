-- Along the declarations of a unit the marks of the entries that are left may be set.
use Rattle.std.proofs.Common.{◌≡◌, ◌<◌, ◌≤◌, ℕ, ◌+◌, Bool, true, false, if◌then◌else◌, nat_eq, List, ◌++◌, length, get_or, replicate, map, drop, Some, refl, sym, ap, subst, ◌∙◌, arith}
use Rattle.std.specs.List.{slice_get}
use Rattle.std.proofs.lemmas.Bool.{eqb-true, eq-eqb}
use Rattle.std.proofs.lemmas.Option.{slice_get_within, slice_get-get_or}
use Rattle.std.proofs.lemmas.List.{append_assoc, length-replicate, replicate-append-replicate}
use Rattle.spl_tree.specs.declared.declarations.Decl.{Decl}
use Rattle.spl_tree.specs.Spells.{declaration}
use Rattle.spl_tree.specs.DeclarationTrees as decl
use Rattle.spl_tree.specs.DeclarationTrees.{Heading, Declaration, Declarations, declarations}
use Rattle.spl_tree.specs.StatementTrees.{Statement, statements}
use Rattle.spl_sound.specs.spl_meaning.Names.{Names, formals_of}
use Rattle.spl_layout.specs.spl_rooms.declared.room_type.Room.{Room}
use Rattle.spl_branch.specs.declared.buffer.Code.{Code}
use Rattle.spl_unit_laws.specs.spl_code.Parts.{Part, ◌⨟◌}
use Rattle.spl_unit_laws.specs.spl_code.Appends.{behind}
use Rattle.spl_unit_laws.proofs.spl_lists_proofs.NameWalks.{onward, onward_end}
use Rattle.spl_unit_laws.specs.spl_body_scopes.Levels.{Level}
use Rattle.spl_unit_laws.specs.spl_routine_code.Generates.{AreOpen, Generates, GeneratesFrom}
use Rattle.spl_unit_laws.specs.spl_routine_code.Scoped.{procedure_with}
use Rattle.spl_unit_laws.specs.spl_routine_code.Bodies.{statements_part}
use Rattle.spl_sound.specs.spl_meaning.Pending.{formals_words}
use Rattle.spl_unit_laws.specs.spl_routine_code.Routines.{Around, inners_among, RoutineStands}
use Rattle.spl_unit_laws.proofs.spl_routine_code_proofs.OpenMarks.{one_generated, over_generated}
use Rattle.spl_unit_laws.proofs.spl_routine_code_proofs.InnerWalks.{SomePart, list_part}
use Rattle.spl_unit_laws.specs.spl_unit_codes.declared.growing.Growing.{Growing}
use Rattle.spl_unit_laws.specs.declared.cursors.Cursor.{Cursor}
use Rattle.spl_unit_laws.specs.Known.{Fixed, Known}
use Rattle.spl_unit_laws.specs.Steps.{Grows, RoutineGrows, InnerGrows, PartsStep, Step, Steps, entry_count, entries_count, IsOpen, IsFree, main_count, AreFree, OnceInUnit, OnceInAll, level_behind}
use Rattle.spl_unit_laws.specs.Steps.{Steps as t}
use Rattle.spl_unit_walks.proofs.Grown.{some_inside}

-- ---- parts, whatever they are of

over : (entry count : ℕ) (p q : Part) (c d e : Code) → GeneratesFrom (entry + 1) count p c d → Generates entry q d e → SomePart entry (1 + count) c e
over entry count p q c d e a b = record { part = p ⨟ q; made = over_generated entry count p q c d e a b }

routine_some : (a : Around) (rooms : List Room) (k : ℕ) (outer : Names) (own arrays : ℕ) (h : Heading) (items : Declarations) (ss : List Statement) (entry : ℕ) (c d : Code)
    → RoutineStands a rooms k outer own arrays h items ss entry c d → SomePart entry (1 + inners_among items) c d
routine_some a rooms k outer own arrays h items ss entry c d s =
    let p = list_part a rooms items (k + 1) (entry + 1) c s.middle s.inners in
    over entry (inners_among items) p.part
    (procedure_with s.stands.frame (formals_words (formals_of h)) entry (statements_part s.stands.scope (statements ss))) c s.middle d p.made s.stands.stands

-- behind it the next may be set
open_next : (done count more : ℕ) (c d : Code) → SomePart done count c d → IsOpen done (count + more) c.marks.items → IsOpen (done + count) more d.marks.items
open_next done count more c d p o =
    let k : ℕ = (behind p.part c).marks in
    record {
      others = o.others + k;
      is =
          p.made.marks (replicate done true) (replicate o.others true) more (length-replicate done true) o.is
          ∙ ap (λ xs. xs ++ (replicate more false ++ (replicate o.others true ++ replicate k true))) (replicate-append-replicate done count true)
          ∙ ap (λ xs. replicate (done + count) true ++ (replicate more false ++ xs)) (replicate-append-replicate o.others k true);
    }

-- so many of the marks that may be set
pub open_first : (done count more n : ℕ) (marks : List Bool) → IsOpen done n marks → n ≡ count + more → AreOpen done count marks
open_first done count more n marks o is = record {
  before = replicate done true;
  behind = replicate more false ++ replicate o.others true;
  first_is = length-replicate done true;
  is = o.is ∙ ap (λ i. replicate done true ++ (replicate i false ++ replicate o.others true)) is
      ∙ ap (λ xs. replicate done true ++ (xs ++ replicate o.others true)) (sym (replicate-append-replicate count more false))
      ∙ ap (λ xs. replicate done true ++ xs) (append_assoc (replicate count false) (replicate more false) (replicate o.others true));
}

-- ---- a declaration

sums : (a b c : ℕ) → (a + b) + c ≡ a + (b + c)
sums a b c = omega arith

none_first : (a : ℕ) → 0 + a ≡ a
none_first a = omega arith

-- one that has no entry in a segment
passes : (s : Bool) (main g : ℕ) (d : Declaration) (ds : Declarations) (x : Growing) → entry_count main g d ≡ 0
    → IsOpen x.done (entries_count main g (decl.and d ds) + main_count s main g) x.code.marks.items → IsOpen x.done (entries_count main g ds + main_count s main g) x.code.marks.items
passes s main g d ds x none o =
    subst (λ n. IsOpen x.done (n + main_count s main g) x.code.marks.items) (ap (λ n. n + entries_count main g ds) none ∙ none_first (entries_count main g ds)) o

-- one that has so many
grows_open : (s : Bool) (main g count : ℕ) (d : Declaration) (ds : Declarations) (x y : Growing) → entry_count main g d ≡ count → SomePart x.done count x.code y.code
    → y.done ≡ x.done + count → IsOpen x.done (entries_count main g (decl.and d ds) + main_count s main g) x.code.marks.items
    → IsOpen y.done (entries_count main g ds + main_count s main g) y.code.marks.items
grows_open s main g count d ds x y is p done o =
    subst (λ n. IsOpen n (entries_count main g ds + main_count s main g) y.code.marks.items) (sym done)
    (open_next x.done count (entries_count main g ds + main_count s main g) x.code y.code p
    (subst (λ n. IsOpen x.done n x.code.marks.items)
    (ap (λ n. (n + entries_count main g ds) + main_count s main g) is ∙ sums count (entries_count main g ds) (main_count s main g)) o))

-- where the code of one segment grows
one_grows : (s : Bool) (main seg count : ℕ) (d : Declaration) (ds : Declarations) (P : Growing → Growing → Type 0) (old new : List Growing) → Grows seg P old new
    → ((g : ℕ) → nat_eq seg g ≡ true → entry_count main g d ≡ count) → ((g : ℕ) → nat_eq seg g ≡ false → entry_count main g d ≡ 0)
    → ((x y : Growing) → P x y → SomePart x.done count x.code y.code × (y.done ≡ x.done + count))
    → AreFree s main (decl.and d ds) old → AreFree s main ds new
one_grows s main seg count d ds P old new grows inside outside made free g y at = by (nat_eq seg g) refl
  where
    lt : g < length old
    lt = let a = slice_get_within new g y at in let b = grows.number in omega (arith, a, b)

    by : (b : Bool) → nat_eq seg g ≡ b → IsOpen y.done (entries_count main g ds + main_count s main g) y.code.marks.items
    by false is = passes s main g d ds y (outside g is) (free g y (sym (grows.others g is) ∙ at))
    by true is =
        let same : seg ≡ g = eqb-true seg g is in
        let x : Growing = get_or old g y in
        let there : slice_get old g ≡ Some x = slice_get-get_or old g y lt in
        let one = grows.there x (ap (λ k. slice_get old k) same ∙ there) in
        let z : Growing = one.0 in
        let both = made x z one.2 in
        subst (λ (v : Growing). IsOpen v.done (entries_count main g ds + main_count s main g) v.code.marks.items)
        (some_inside z y (sym one.1 ∙ ap (λ k. slice_get new k) same ∙ at))
        (grows_open s main g count d ds x z (inside g is) both.0 both.1 (free g x there))

plain_free : (s : Bool) (main : ℕ) (d : Declaration) (ds : Declarations) (old new : List Growing) → ((g : ℕ) → entry_count main g d ≡ 0) → new ≡ old
    → AreFree s main (decl.and d ds) old → AreFree s main ds new
plain_free s main d ds old new none same free g y at = passes s main g d ds y (none g) (free g y (ap (λ xs. slice_get xs g) (sym same) ∙ at))

pub free_next : (f : Fixed) (s : Bool) (outer : Level) (d : Declaration) (ds : Declarations) (at next : Cursor) (old new : List Growing)
    → PartsStep f outer d at old next new → AreFree s f.segment (decl.and d ds) old → AreFree s f.segment ds new
free_next f s outer (decl.Declaration.data_items own k items) ds at next old new step free = plain_free s f.segment (decl.Declaration.data_items own k items) ds old new (λ g. refl) step.1 free
free_next f s outer (decl.Declaration.equate es) ds at next old new step free = plain_free s f.segment (decl.Declaration.equate es) ds old new (λ g. refl) step.1 free
free_next f s outer (decl.Declaration.intrinsic xs) ds at next old new step free = plain_free s f.segment (decl.Declaration.intrinsic xs) ds old new (λ g. refl) step.1 free
free_next f s outer (decl.Declaration.label xs) ds at next old new step free = plain_free s f.segment (decl.Declaration.label xs) ds old new (λ g. refl) step.1 free
free_next f s outer (decl.Declaration.forward h) ds at next old new step free = plain_free s f.segment (decl.Declaration.forward h) ds old new (λ g. refl) step.1 free
free_next f s outer (decl.Declaration.external h) ds at next old new step free = plain_free s f.segment (decl.Declaration.external h) ds old new (λ g. refl) step.1 free
free_next f s outer (decl.Declaration.procedure h items ss) ds at next old new step free =
    one_grows s f.segment h.segment (1 + inners_among items) (decl.Declaration.procedure h items ss) ds (RoutineGrows f outer at h items ss) old new step.1
    (λ g is. ap (λ (b : Bool). if b then 1 + inners_among items else 0) is) (λ g is. ap (λ (b : Bool). if b then 1 + inners_among items else 0) is)
    (λ x y r. (routine_some _ f.rooms at.room outer.names at.own at.own_arrays h items ss x.done x.code y.code r.code, r.done)) free
free_next f s outer (decl.Declaration.subroutine h st) ds at next old new step free =
    one_grows s f.segment f.segment 1 (decl.Declaration.subroutine h st) ds (InnerGrows f at h st) old new step.1
    (λ g is. ap (λ (b : Bool). if b then 1 else 0) is) (λ g is. ap (λ (b : Bool). if b then 1 else 0) is)
    (λ x y r. (record { part = _; made = one_generated x.done _ x.code y.code r.code.stands }, r.done)) free

-- what is asked for at a declaration
pub free_here : (s : Bool) (main : ℕ) (d : Declaration) (ds : Declarations) (parts : List Growing) → AreFree s main (decl.and d ds) parts → IsFree main d parts
free_here s main (decl.Declaration.data_items own k items) ds parts free = tt
free_here s main (decl.Declaration.equate es) ds parts free = tt
free_here s main (decl.Declaration.intrinsic xs) ds parts free = tt
free_here s main (decl.Declaration.label xs) ds parts free = tt
free_here s main (decl.Declaration.forward h) ds parts free = tt
free_here s main (decl.Declaration.external h) ds parts free = tt
free_here s main (decl.Declaration.procedure h items ss) ds parts free = λ x at.
    let here : entry_count main h.segment (decl.Declaration.procedure h items ss) ≡ 1 + inners_among items =
    ap (λ (b : Bool). if b then 1 + inners_among items else 0) (eq-eqb h.segment h.segment refl) in
    open_first x.done (1 + inners_among items) (entries_count main h.segment ds + main_count s main h.segment) _ x.code.marks.items (free h.segment x at)
    (ap (λ n. (n + entries_count main h.segment ds) + main_count s main h.segment) here ∙ sums (1 + inners_among items) (entries_count main h.segment ds) (main_count s main h.segment))
free_here s main (decl.Declaration.subroutine h st) ds parts free = λ x at.
    let here : entry_count main main (decl.Declaration.subroutine h st) ≡ 1 = ap (λ (b : Bool). if b then 1 else 0) (eq-eqb main main refl) in
    open_first x.done 1 (entries_count main main ds + main_count s main main) _ x.code.marks.items (free main x at)
    (ap (λ n. (n + entries_count main main ds) + main_count s main main) here ∙ sums 1 (entries_count main main ds) (main_count s main main))

-- ---- the walk

pub record UnitWalk (f : Fixed) (s : Bool) (all left : Declarations) (from now : Known) : Type 0 where
  pub rest : (m : Known) → Steps f left now m → Steps f all from m
  pub free : AreFree s f.segment left now.parts
  pub once : OnceInAll left

pub walk_first : (f : Fixed) (s : Bool) (list : List Decl) (from : Known) → AreFree s f.segment (declarations (map declaration list)) from.parts
    → OnceInAll (declarations (map declaration list)) → UnitWalk f s (declarations (map declaration list)) (declarations (map declaration (drop 0 list))) from from
walk_first f s list from free once = record { rest = λ m steps. steps; free = free; once = once }

walk_more : (f : Fixed) (s : Bool) (all : Declarations) (d : Declaration) (ds : Declarations) (from now next : Known) → UnitWalk f s all (decl.and d ds) from now
    → Step f d now next → UnitWalk f s all ds from next
walk_more f s all d ds from now next w step = record {
  rest = λ m steps. w.rest m (t.more step steps);
  free = free_next f s next.level d ds now.at next.at now.parts next.parts step.parts w.free;
  once = w.once.1;
}

pub walk_here : (f : Fixed) (s : Bool) (all : Declarations) (list : List Decl) (i : ℕ) (d : Decl) (from now : Known)
    → UnitWalk f s all (declarations (map declaration (drop i list))) from now → i < length list → d ≡ get_or list i d
    → UnitWalk f s all (decl.and (declaration d) (declarations (map declaration (drop (i + 1) list)))) from now
walk_here f s all list i d from now w lt is = subst (λ ds. UnitWalk f s all ds from now) (onward declaration (λ ds. declarations ds) list i d lt is) w

pub walk_next : (f : Fixed) (s : Bool) (all : Declarations) (list : List Decl) (i : ℕ) (d : Decl) (from now next : Known)
    → UnitWalk f s all (declarations (map declaration (drop i list))) from now → i < length list → d ≡ get_or list i d
    → next.level ≡ level_behind now.level (declaration d) → PartsStep f next.level (declaration d) now.at now.parts next.at next.parts
    → UnitWalk f s all (declarations (map declaration (drop (i + 1) list))) from next
walk_next f s all list i d from now next w lt is level parts =
    walk_more f s all (declaration d) (declarations (map declaration (drop (i + 1) list))) from now next (walk_here f s all list i d from now w lt is)
    (record { level = level; parts = parts })

pub free_at : (f : Fixed) (s : Bool) (all : Declarations) (list : List Decl) (i : ℕ) (d : Decl) (from now : Known)
    → UnitWalk f s all (declarations (map declaration (drop i list))) from now → i < length list → d ≡ get_or list i d → IsFree f.segment (declaration d) now.parts
free_at f s all list i d from now w lt is =
    free_here s f.segment (declaration d) (declarations (map declaration (drop (i + 1) list))) now.parts (walk_here f s all list i d from now w lt is).free

pub once_at : (f : Fixed) (s : Bool) (all : Declarations) (list : List Decl) (i : ℕ) (d : Decl) (from now : Known)
    → UnitWalk f s all (declarations (map declaration (drop i list))) from now → i < length list → d ≡ get_or list i d → OnceInUnit (declaration d)
once_at f s all list i d from now w lt is = (walk_here f s all list i d from now w lt is).once.0

pub walk_done : (f : Fixed) (s : Bool) (all : Declarations) (list : List Decl) (i : ℕ) (from now : Known)
    → UnitWalk f s all (declarations (map declaration (drop i list))) from now → length list ≤ i → Steps f all from now × AreFree s f.segment decl.none now.parts
walk_done f s all list i from now w le =
    let last : UnitWalk f s all decl.none from now = subst (λ ds. UnitWalk f s all ds from now) (onward_end declaration (λ ds. declarations ds) list i le) w in
    (last.rest now t.none, last.free)
