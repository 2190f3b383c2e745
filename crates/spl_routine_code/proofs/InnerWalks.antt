-- A loop over the declarations of a body, whose subroutines are appended.
use Rattle.std.proofs.Common.{◌≡◌, ◌<◌, ◌≤◌, ℕ, ◌+◌, ◌++◌, List, Bool, false, map, drop, length, get_or, replicate, refl, sym, ap, subst, ◌∙◌, arith}
use Rattle.std.proofs.lemmas.List.{append_assoc, replicate-append-replicate}
use Rattle.spl_tree.specs.declared.declarations.Decl.{Decl}
use Rattle.spl_tree.specs.DeclarationTrees as decl
use Rattle.spl_tree.specs.DeclarationTrees.{Declaration, Declarations, declarations}
use Rattle.spl_tree.specs.Spells.{declaration}
use Rattle.spl_rooms.specs.declared.room_type.Room.{Room}
use Rattle.spl_branch.specs.declared.buffer.Code.{Code}
use Rattle.spl_label_marks.specs.spl_code.Parts.{Part, nothing, ◌⨟◌}
use Rattle.spl_statement_scopes.proofs.spl_lists_proofs.NameWalks.{onward, onward_end}
use Rattle.spl_routine_code.specs.Generates.{AreOpen, GeneratesFrom}
use Rattle.spl_routine_code.specs.Routines.{Around, OnceIn, OnceAmong, inner_count, inners_among, InnerStep, InnersStand}
use Rattle.spl_routine_code.specs.Routines.{InnersStand as s}
use Rattle.spl_routine_code.proofs.OpenMarks.{one_generated, none_generated, then_generated, rest_open}

-- ---- marks

-- what a declaration and what a list generates
pub record SomePart (first count : ℕ) (c d : Code) : Type 0 where
  pub part : Part
  pub made : GeneratesFrom first count part c d

same_part : (entry : ℕ) {c e : Code} → e ≡ c → SomePart entry 0 c e
same_part entry {c} {e} is = subst (λ x. SomePart entry 0 c x) (sym is) (record { part = nothing; made = none_generated entry c })

pub step_part : (a : Around) (rooms : List Room) (d : Declaration) (k entry : ℕ) (c e : Code) → InnerStep a rooms d k entry c e → SomePart entry (inner_count d) c e
step_part a rooms (decl.Declaration.subroutine h s) k entry c e one = record { part = _; made = one_generated entry _ c e one.stands }
step_part a rooms (decl.Declaration.data_items own kind is) k entry c e one = same_part entry one
step_part a rooms (decl.Declaration.equate es) k entry c e one = same_part entry one
step_part a rooms (decl.Declaration.intrinsic xs) k entry c e one = same_part entry one
step_part a rooms (decl.Declaration.label xs) k entry c e one = same_part entry one
step_part a rooms (decl.Declaration.forward h) k entry c e one = same_part entry one
step_part a rooms (decl.Declaration.external h) k entry c e one = same_part entry one
step_part a rooms (decl.Declaration.procedure h items ss) k entry c e one = same_part entry one

pub list_part : (a : Around) (rooms : List Room) (ds : Declarations) (k entry : ℕ) (c e : Code) → InnersStand a rooms ds k entry c e → SomePart entry (inners_among ds) c e
list_part a rooms _ k entry c _ s.none = record { part = nothing; made = none_generated entry c }
list_part a rooms (decl.and d ds) k entry c f (s.more {e = e} one rest) =
    let p = step_part a rooms d k entry c e one in
    let q = list_part a rooms ds (k + inner_count d) (entry + inner_count d) e f rest in
    record {
      part = p.part ⨟ q.part;
      made = then_generated entry (inner_count d) p.part (entry + inner_count d) (inners_among ds) q.part c e f p.made refl q.made;
    }

-- ---- the loop

-- so many subroutines of a list have been appended, where these declarations are left
pub record InnersWalk (a : Around) (rooms : List Room) (k entry : ℕ) (all left : Declarations) (from now : Code) (count : ℕ) : Type 0 where
  pub rest : (e : Code) → InnersStand a rooms left (k + count) (entry + count) now e → InnersStand a rooms all k entry from e
  pub free : AreOpen (entry + count) (inners_among left) now.marks.items
  pub once : OnceAmong left
  pub counted : count + inners_among left ≡ inners_among all

onwards : (count n : ℕ) (k : ℕ) → (k + count) + n ≡ k + (count + n)
onwards count n k = omega arith

walk_more : (a : Around) (rooms : List Room) (k entry : ℕ) (all : Declarations) (d : Declaration) (ds : Declarations) (from c e : Code) (count next : ℕ)
    → InnersWalk a rooms k entry all (decl.and d ds) from c count → InnerStep a rooms d (k + count) (entry + count) c e → next ≡ count + inner_count d
    → InnersWalk a rooms k entry all ds from e next
walk_more a rooms k entry all d ds from c e count next w one is =
    let n : ℕ = inner_count d in
    let p = step_part a rooms d (k + count) (entry + count) c e one in
    let here : InnersWalk a rooms k entry all ds from e (count + n) = record {
      rest = λ f stand.
          w.rest f (s.more one (subst (λ i. InnersStand a rooms ds ((k + count) + n) i e f) (sym (onwards count n entry))
          (subst (λ i. InnersStand a rooms ds i (entry + (count + n)) e f) (sym (onwards count n k)) stand)));
      free = subst (λ i. AreOpen i (inners_among ds) e.marks.items) (onwards count n entry)
          (rest_open (entry + count) n (inners_among ds) p.part c e p.made w.free);
      once = w.once.1;
      counted = (let x = w.counted in omega (arith, x));
    } in
    subst (λ i. InnersWalk a rooms k entry all ds from e i) (sym is) here

-- before the first
pub walk_first : (a : Around) (rooms : List Room) (k entry : ℕ) (list : List Decl) (c : Code)
    → AreOpen entry (inners_among (declarations (map declaration list))) c.marks.items → OnceAmong (declarations (map declaration list))
    → InnersWalk a rooms k entry (declarations (map declaration list)) (declarations (map declaration (drop 0 list))) c c 0
walk_first a rooms k entry list c free once = record {
  rest = λ e stand.
      subst (λ i. InnersStand a rooms (declarations (map declaration list)) i entry c e) (zero_more k)
      (subst (λ i. InnersStand a rooms (declarations (map declaration list)) (k + 0) i c e) (zero_more entry) stand);
  free = subst (λ i. AreOpen i (inners_among (declarations (map declaration list))) c.marks.items) (sym (zero_more entry)) free;
  once = once;
  counted = none_before (inners_among (declarations (map declaration list)));
}
  where
    zero_more : (i : ℕ) → i + 0 ≡ i
    zero_more i = omega arith

    none_before : (i : ℕ) → 0 + i ≡ i
    none_before i = omega arith

-- at a declaration
pub walk_here : (a : Around) (rooms : List Room) (k entry : ℕ) (all : Declarations) (list : List Decl) (i : ℕ) (d : Decl) (from c : Code) (count : ℕ)
    → InnersWalk a rooms k entry all (declarations (map declaration (drop i list))) from c count → i < length list → d ≡ get_or list i d
    → InnersWalk a rooms k entry all (decl.and (declaration d) (declarations (map declaration (drop (i + 1) list)))) from c count
walk_here a rooms k entry all list i d from c count w lt is =
    subst (λ ds. InnersWalk a rooms k entry all ds from c count) (onward declaration (λ ds. declarations ds) list i d lt is) w

pub walk_next : (a : Around) (rooms : List Room) (k entry : ℕ) (all : Declarations) (list : List Decl) (i : ℕ) (d : Decl) (from c e : Code) (count next m n : ℕ)
    → InnersWalk a rooms k entry all (declarations (map declaration (drop i list))) from c count → i < length list → d ≡ get_or list i d
    → m ≡ k + count → n ≡ entry + count → InnerStep a rooms (declaration d) m n c e → next ≡ count + inner_count (declaration d)
    → InnersWalk a rooms k entry all (declarations (map declaration (drop (i + 1) list))) from e next
walk_next a rooms k entry all list i d from c e count next m n w lt is at by one counted =
    walk_more a rooms k entry all (declaration d) (declarations (map declaration (drop (i + 1) list))) from c e count next
    (walk_here a rooms k entry all list i d from c count w lt is)
    (subst (λ j. InnerStep a rooms (declaration d) (k + count) j c e) by (subst (λ j. InnerStep a rooms (declaration d) j n c e) at one)) counted

-- what is asked for at a declaration
first_of : (n m i : ℕ) (marks : List Bool) → AreOpen i (n + m) marks → AreOpen i n marks
first_of n m i marks o = record {
  before = o.before;
  behind = replicate m false ++ o.behind;
  first_is = o.first_is;
  is = o.is ∙ ap (λ xs. o.before ++ (xs ++ o.behind)) (sym (replicate-append-replicate n m false)) ∙ ap (λ xs. o.before ++ xs) (append_assoc (replicate n false) (replicate m false) o.behind);
}

pub free_here : (a : Around) (rooms : List Room) (k entry : ℕ) (all : Declarations) (list : List Decl) (i : ℕ) (d : Decl) (from c : Code) (count n : ℕ)
    → InnersWalk a rooms k entry all (declarations (map declaration (drop i list))) from c count → i < length list → d ≡ get_or list i d → n ≡ entry + count
    → AreOpen n (inner_count (declaration d)) c.marks.items
free_here a rooms k entry all list i d from c count n w lt is by =
    let here = walk_here a rooms k entry all list i d from c count w lt is in
    subst (λ j. AreOpen j (inner_count (declaration d)) c.marks.items) (sym by)
    (first_of (inner_count (declaration d)) (inners_among (declarations (map declaration (drop (i + 1) list)))) (entry + count) c.marks.items here.free)

pub once_here : (a : Around) (rooms : List Room) (k entry : ℕ) (all : Declarations) (list : List Decl) (i : ℕ) (d : Decl) (from c : Code) (count : ℕ)
    → InnersWalk a rooms k entry all (declarations (map declaration (drop i list))) from c count → i < length list → d ≡ get_or list i d → OnceIn (declaration d)
once_here a rooms k entry all list i d from c count w lt is = (walk_here a rooms k entry all list i d from c count w lt is).once.0

-- behind the last
all_behind : (list : List Decl) (i : ℕ) → length list ≤ i → declarations (map declaration (drop i list)) ≡ decl.none
all_behind list i le = onward_end declaration (λ ds. declarations ds) list i le

pub walk_done : (a : Around) (rooms : List Room) (k entry : ℕ) (all : Declarations) (list : List Decl) (i : ℕ) (from c : Code) (count : ℕ)
    → InnersWalk a rooms k entry all (declarations (map declaration (drop i list))) from c count → length list ≤ i
    → InnersStand a rooms all k entry from c × (count ≡ inners_among all)
walk_done a rooms k entry all list i from c count w le =
    let last : InnersWalk a rooms k entry all decl.none from c count =
    subst (λ ds. InnersWalk a rooms k entry all ds from c count) (all_behind list i le) w in
    (last.rest c s.none, (let x = last.counted in omega (arith, x)))
