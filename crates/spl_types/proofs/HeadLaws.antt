-- A heading agrees with the first procedure of its name, where no other differs from that, exactly where it agrees with all.
use Rattle.std.proofs.Common.{ℕ, ◌≡◌, ◌+◌, not, Bool, true, false, List, [], ◌∷◌, ◌++◌, Option, Some, None, refl, sym, ap, ◌∙◌}
use Rattle.std.specs.Prelude.{◌&&◌, ◌||◌, if◌then◌else◌}
use Rattle.std.specs.Cmp.Lexicographic.{same_text}
use Rattle.spl_tree.specs.DeclarationTrees as decl
use Rattle.spl_tree.specs.DeclarationTrees.{Heading, Declaration, Declarations}
use Rattle.spl_sound.specs.spl_meaning.Names as n
use Rattle.spl_sound.specs.spl_meaning.Names.{Names, Sort, Table, Profile, or_else, same_name, nothing_declared, profile_of}
use Rattle.spl_sound.specs.spl_meaning.Tables.{Source, Routine, with_declaration, routine_in, routines_among, routines_of}
use Rattle.spl_sound.specs.spl_meaning.DeclarationRules.{same_profile}
use Rattle.spl_sound.specs.spl_meaning.Stops.{declaration_stops}
use Rattle.spl_uses.specs.spl_found.OwnNames.{with_name}
use Rattle.spl_uses.specs.spl_found.FoundUnits.{agrees_with, agree}
use Rattle.spl_types.specs.HeadTables.{Heads, no_heads, differs, heads_with, heads_behind, heads_list, agreed_by, agreed}
use Rattle.spl_types.proofs.ProfileLaws.{as_one, both_alike}

-- nothing, or a procedure
IsHead : Option Sort → Type 0
IsHead None = Unit {0}
IsHead (Some (n.procedure p)) = Unit {0}
IsHead (Some s) = ⊥

AreHeads : Heads → Type 0
AreHeads s = (x : List ℕ) → IsHead (s.firsts x)

-- another name's procedure changes nothing
other : (o : Option Sort) (s : Sort) (b : Bool) → b ≡ false → or_else o (if b then Some s else None) ≡ o
other None s b e = rw e refl
other (Some t) s b e = refl

-- a procedure more, of a name that has been looked up
more_by : (first unlike : Option Sort) (p q : Profile) → IsHead first
    → agreed_by (or_else first (Some (n.procedure q))) (if differs first q then or_else unlike (Some n.label) else unlike) p
    ≡ (agreed_by first unlike p && same_profile p q)
unfolding IsHead
more_by None None p q h = refl
more_by None (Some u) p q h = refl
more_by (Some (n.procedure r)) (Some u) p q h = by (not (same_profile r q))
  where
    by : (b : Bool) → agreed_by (Some (n.procedure r)) (if b then Some u else Some u) p ≡ false
    by true = refl
    by false = refl
more_by (Some (n.procedure r)) None p q h = by (same_profile r q) (same_profile p r) (same_profile p q) refl refl refl
  where
    by : (b c d : Bool) → same_profile r q ≡ b → same_profile p r ≡ c → same_profile p q ≡ d
        → agreed_by (Some (n.procedure r)) (if not b then Some n.label else None) p ≡ (c && d)
    by true true true e f g = f
    by true false d e f g = f
    by true true false e f g = cc (sym f ∙ as_one p r q e ∙ g)
    by false true true e f g = cc (sym e ∙ both_alike p r q f g)
    by false true false e f g = refl
    by false false d e f g = refl
more_by (Some (n.simple k own)) u p q h = absurd h
more_by (Some (n.array k own low high)) u p q h = absurd h
more_by (Some (n.view k own base)) u p q h = absurd h
more_by (Some (n.pointer k own)) u p q h = absurd h
more_by (Some (n.value k)) u p q h = absurd h
more_by (Some (n.by_reference k)) u p q h = absurd h
more_by (Some (n.array_parameter k)) u p q h = absurd h
more_by (Some (n.equate v)) u p q h = absurd h
more_by (Some n.label) u p q h = absurd h
more_by (Some (n.intrinsic g)) u p q h = absurd h
more_by (Some (n.subroutine r)) u p q h = absurd h
more_by (Some n.unknown) u p q h = absurd h

-- a choice of names, at a name
chosen_at : (b : Bool) (f g : Names) (y : List ℕ) → (if b then f else g) y ≡ (if b then f y else g y)
chosen_at true f g y = refl
chosen_at false f g y = refl

and_true : (a : Bool) → a ≡ (a && true)
and_true true = refl
and_true false = refl

same_choice : (b : Bool) (o : Option Sort) → (if b then o else o) ≡ o
same_choice true o = refl
same_choice false o = refl

-- a procedure more, at each name
one_more : (s : Heads) (x : List ℕ) (q : Profile) (y : List ℕ) (p : Profile) → AreHeads s
    → agreed (heads_with s x q) y p ≡ (agreed s y p && (not (same_name y x) || same_profile p q))
unfolding AreHeads with_name
one_more s x q y p ok = by (same_name y x) refl
  where
    firsts : Option Sort → Option Sort
    firsts o = or_else (s.firsts y) o

    by : (b : Bool) → same_name y x ≡ b → agreed (heads_with s x q) y p ≡ (agreed s y p && (not b || same_profile p q))
    by false e =
        ap (λ (o : Option Sort). agreed_by o ((heads_with s x q).unlike y) p) (other (s.firsts y) (n.procedure q) (same_name y x) e)
        ∙ ap (λ (u : Option Sort). agreed_by (s.firsts y) u p)
        (chosen_at (differs (s.firsts x) q) (with_name s.unlike x n.label) s.unlike y
        ∙ ap (λ (o : Option Sort). if differs (s.firsts x) q then o else s.unlike y) (other (s.unlike y) n.label (same_name y x) e)
        ∙ same_choice (differs (s.firsts x) q) (s.unlike y))
        ∙ and_true (agreed s y p)
    by true e =
        ap (λ (b : Bool). agreed_by (or_else (s.firsts y) (if b then Some (n.procedure q) else None)) ((heads_with s x q).unlike y) p) e
        ∙ ap (λ (u : Option Sort). agreed_by (or_else (s.firsts y) (Some (n.procedure q))) u p)
        (chosen_at (differs (s.firsts x) q) (with_name s.unlike x n.label) s.unlike y
        ∙ ap (λ (b : Bool). if differs (s.firsts x) q then or_else (s.unlike y) (if b then Some n.label else None) else s.unlike y) e
        ∙ ap (λ (z : List ℕ). if differs (s.firsts z) q then or_else (s.unlike y) (Some n.label) else s.unlike y) (sym (same_text y x (sym e))))
        ∙ more_by (s.firsts y) (s.unlike y) p q (ok y)

still_heads : (s : Heads) (d : Declaration) → AreHeads s → AreHeads (heads_behind s d)
unfolding AreHeads IsHead with_name
still_heads s (decl.Declaration.data_items own k items) ok = ok
still_heads s (decl.Declaration.equate es) ok = ok
still_heads s (decl.Declaration.intrinsic xs) ok = ok
still_heads s (decl.Declaration.label xs) ok = ok
still_heads s (decl.Declaration.forward h) ok = ok
still_heads s (decl.Declaration.external h) ok = ok
still_heads s (decl.Declaration.procedure h items ss) ok = λ y. by (s.firsts y) (same_name y h.name) (ok y)
  where
    by : (o : Option Sort) (b : Bool) → IsHead o → IsHead (or_else o (if b then Some (n.procedure (profile_of h)) else None))
    by (Some s) b i = i
    by None true i = i
    by None false i = i
still_heads s (decl.Declaration.subroutine h ss) ok = ok

grouped : (a b c : Bool) → ((a && b) && c) ≡ (a && (if b then c else false))
grouped true true c = refl
grouped true false c = refl
grouped false b c = refl

-- the procedures of a list, behind others
heads_are : (ds : Declarations) (t : Table Sort) (k : ℕ) (s : Heads) (h : Heading) → AreHeads s
    → agreed (heads_list s ds) h.name (profile_of h) ≡ (agreed s h.name (profile_of h) && agree h (routines_among t k ds))
heads_are decl.none t k s h ok = and_true _
heads_are (decl.and d ds) t k s h ok =
    by d (heads_are ds (with_declaration nothing_declared t d) (k + declaration_stops d) (heads_behind s d) h (still_heads s d ok))
  where
    rest : List Routine
    rest = routines_among (with_declaration nothing_declared t d) (k + declaration_stops d) ds

    by : (e : Declaration)
        → agreed (heads_list (heads_behind s e) ds) h.name (profile_of h) ≡ (agreed (heads_behind s e) h.name (profile_of h) && agree h rest)
        → agreed (heads_list (heads_behind s e) ds) h.name (profile_of h) ≡ (agreed s h.name (profile_of h) && agree h (routine_in t k e ++ rest))
    by (decl.Declaration.data_items own c items) i = i
    by (decl.Declaration.equate es) i = i
    by (decl.Declaration.intrinsic xs) i = i
    by (decl.Declaration.label xs) i = i
    by (decl.Declaration.forward g) i = i
    by (decl.Declaration.external g) i = i
    by (decl.Declaration.procedure g items ss) i =
        i ∙ ap (λ (b : Bool). b && agree h rest) (one_more s g.name (profile_of g) h.name (profile_of h) ok)
        ∙ grouped (agreed s h.name (profile_of h)) (not (same_name h.name g.name) || same_profile (profile_of h) (profile_of g)) (agree h rest)
    by (decl.Declaration.subroutine g ss) i = i

-- those of a unit
pub unit_agrees : (u : Source) (h : Heading)
    → agreed (heads_list no_heads (decl.declarations u.tree.items)) h.name (profile_of h) ≡ agree h (routines_of u)
unfolding AreHeads IsHead
unit_agrees u h = heads_are (decl.declarations u.tree.items) [] 0 no_heads h (λ x. tt)

-- those of two lists
pub agree_both : (h : Heading) (rs qs : List Routine) → agree h (rs ++ qs) ≡ (agree h rs && agree h qs)
agree_both h [] qs = refl
agree_both h (r ∷ rs) qs = by (agrees_with h r) (agree_both h rs qs)
  where
    by : (b : Bool) → agree h (rs ++ qs) ≡ (agree h rs && agree h qs)
        → (if b then agree h (rs ++ qs) else false) ≡ ((if b then agree h rs else false) && agree h qs)
    by true i = i
    by false i = refl
