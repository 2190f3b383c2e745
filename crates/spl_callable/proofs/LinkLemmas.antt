-- What the links of calls are of, and where a body's results, labels and ways out are.
use Rattle.std.proofs.Common.{◌≡◌, ℕ, Bool, true, false, List, Option, Some, None, refl, sym, ap, ◌∙◌}
use Rattle.std.specs.Prelude.{unwrap_or, option_map, if◌then◌else◌}
use Rattle.spl_mains.specs.hp_instr.declared.instruction.Instr.TheVariants as i
use Rattle.spl_readings.specs.spl_tree.declared.expressions.Kind.{Kind}
use Rattle.spl_mains.specs.spl_meaning.Bodies.{Body}
use Rattle.spl_mains.specs.spl_meaning.Names as n
use Rattle.spl_mains.specs.spl_meaning.Names.{Sort, Profile, or_else}
use Rattle.spl_mains.specs.spl_meaning.Places.{Place}
use Rattle.spl_mains.specs.spl_meaning.States.{Exit, to_label, back}
use Rattle.spl_mains.specs.spl_meaning.Values.{Who, procedure, subroutine}
use Rattle.spl_mains.specs.spl_code.Calls.{Scope}
use Rattle.spl_mains.specs.spl_code.Parts.{Wanted}
use Rattle.spl_readings.specs.spl_statement_code.Landings.{Landing}
use Rattle.spl_readings.specs.spl_scopes.Entries.{Owner, Entry}
use Rattle.spl_readings.specs.spl_module_code.Bodies.{is_called, assigned_place, statements_scope}
use Rattle.spl_mains.specs.spl_follow.Calling.{Link}
use Rattle.spl_mains.specs.spl_follow.Doing.{Way, body}
use Rattle.spl_mains.specs.spl_follow.Spots.{Spot}
use Rattle.spl_callees.specs.spl_links.Links.{linked_by, procedure_link, name_link, subroutine_link, inner_link, links_of}
use Rattle.spl_readings.specs.Readings.{PlaceAlike}
use Rattle.spl_mains.specs.Laws.{result_kind, ResultsAgree}

-- ---- links

-- what a link is of, where it is one
link_shape : (entry place : Option ℕ) (p : Profile) (k : Link) → procedure_link entry place p ≡ Some k → (k.by ≡ i.Control 0 0) × (k.profile ≡ p)
link_shape (Some e) place p k is =
    let same : linked_by false e p ≡ k = ap (λ (o : Option Link). unwrap_or o k) is in
    (ap (λ (x : Link). x.by) (sym same), ap (λ (x : Link). x.profile) (sym same))
link_shape None (Some j) p k is =
    let same : linked_by true j p ≡ k = ap (λ (o : Option Link). unwrap_or o k) is in
    (ap (λ (x : Link). x.by) (sym same), ap (λ (x : Link). x.profile) (sym same))
link_shape None None p k is = cc

-- a name that is linked stands for a procedure, and may be called
pub record IsLinked (may : Who → Bool) (c : Scope) (ws : List Wanted) (x : List ℕ) (k : Link) : Type 0 where
  pub allowed : may (procedure x) ≡ true
  pub profile : Profile
  pub stands : c.names x ≡ Some (n.procedure profile)
  pub linked : name_link c ws x (Some (n.procedure profile)) ≡ Some k
  pub by : k.by ≡ i.Control 0 0
  pub own : k.profile ≡ profile

sort_linked : (may : Who → Bool) (c : Scope) (ws : List Wanted) (x : List ℕ) (k : Link) (o : Option Sort) → may (procedure x) ≡ true → c.names x ≡ o
    → name_link c ws x o ≡ Some k → IsLinked may c ws x k
sort_linked may c ws x k (Some (n.procedure p)) e is l =
    let shape = link_shape (c.procedures x) _ p k l in
    record { allowed = e; profile = p; stands = is; linked = l; by = shape.0; own = shape.1 }
sort_linked may c ws x k None e is l = cc
sort_linked may c ws x k (Some (n.equate v)) e is l = cc
sort_linked may c ws x k (Some (n.simple t own)) e is l = cc
sort_linked may c ws x k (Some (n.array t own low high)) e is l = cc
sort_linked may c ws x k (Some (n.view t own base)) e is l = cc
sort_linked may c ws x k (Some (n.pointer t own)) e is l = cc
sort_linked may c ws x k (Some (n.value t)) e is l = cc
sort_linked may c ws x k (Some (n.by_reference t)) e is l = cc
sort_linked may c ws x k (Some (n.array_parameter t)) e is l = cc
sort_linked may c ws x k (Some n.label) e is l = cc
sort_linked may c ws x k (Some (n.intrinsic j)) e is l = cc
sort_linked may c ws x k (Some (n.subroutine p)) e is l = cc
sort_linked may c ws x k (Some n.unknown) e is l = cc

pub is_linked : (may : Who → Bool) (c : Scope) (ws : List Wanted) (x : List ℕ) (k : Link) → links_of may c ws (procedure x) ≡ Some k → IsLinked may c ws x k
is_linked may c ws x k is = by (may (procedure x)) refl is where
  by : (b : Bool) → may (procedure x) ≡ b → (if b then name_link c ws x (c.names x) else None) ≡ Some k → IsLinked may c ws x k
  by true e f = sort_linked may c ws x k (c.names x) e refl f
  by false e f = cc

-- what the link of a subroutine is of, where it is one
pub record IsInnerLinked (may : Who → Bool) (c : Scope) (x : List ℕ) (k : Link) : Type 0 where
  pub allowed : may (subroutine x) ≡ true
  pub profile : Profile
  pub stands : c.names x ≡ Some (n.subroutine profile)
  pub entry : ℕ
  pub found : c.subroutines x ≡ Some entry
  pub wanted : k.wanted ≡ false
  pub index : k.index ≡ entry
  pub own : k.profile ≡ profile

inner_shape : (o : Option ℕ) (p : Profile) (k : Link) → subroutine_link o p ≡ Some k
    → (e : ℕ) × (o ≡ Some e) × (k.wanted ≡ false) × (k.index ≡ e) × (k.profile ≡ p)
inner_shape None p k is = cc
inner_shape (Some e) p k is =
    let same : record { by = i.Control 3 0; wanted = false; index = e; profile = p } ≡ k = ap (λ (o : Option Link). unwrap_or o k) is in (
      e,
      refl,
      ap (λ (x : Link). x.wanted) (sym same),
      ap (λ (x : Link). x.index) (sym same),
      ap (λ (x : Link). x.profile) (sym same),
    )

inner_sort : (may : Who → Bool) (c : Scope) (x : List ℕ) (k : Link) (o : Option Sort) → may (subroutine x) ≡ true → c.names x ≡ o → inner_link c x o ≡ Some k
    → IsInnerLinked may c x k
inner_sort may c x k (Some (n.subroutine p)) e is l =
    let shape = inner_shape (c.subroutines x) p k l in
    record { allowed = e; profile = p; stands = is; entry = shape.0; found = shape.1; wanted = shape.2; index = shape.3; own = shape.4 }
inner_sort may c x k None e is l = cc
inner_sort may c x k (Some (n.equate v)) e is l = cc
inner_sort may c x k (Some (n.simple t own)) e is l = cc
inner_sort may c x k (Some (n.array t own low high)) e is l = cc
inner_sort may c x k (Some (n.view t own base)) e is l = cc
inner_sort may c x k (Some (n.pointer t own)) e is l = cc
inner_sort may c x k (Some (n.value t)) e is l = cc
inner_sort may c x k (Some (n.by_reference t)) e is l = cc
inner_sort may c x k (Some (n.array_parameter t)) e is l = cc
inner_sort may c x k (Some n.label) e is l = cc
inner_sort may c x k (Some (n.intrinsic j)) e is l = cc
inner_sort may c x k (Some (n.procedure p)) e is l = cc
inner_sort may c x k (Some n.unknown) e is l = cc

pub is_inner_linked : (may : Who → Bool) (c : Scope) (ws : List Wanted) (x : List ℕ) (k : Link) → links_of may c ws (subroutine x) ≡ Some k → IsInnerLinked may c x k
is_inner_linked may c ws x k is = by (may (subroutine x)) refl is where
  by : (b : Bool) → may (subroutine x) ≡ b → (if b then inner_link c x (c.names x) else None) ≡ Some k → IsInnerLinked may c x k
  by true e f = inner_sort may c x k (c.names x) e refl f
  by false e f = cc

-- ---- places

-- the two tables of places of a body differ at names of procedures and subroutines alone
pub places_alike : (b : Body) → PlaceAlike b.here.names b.here.places (assigned_place b)
places_alike b x other = sym (ap (λ (c : Bool). or_else (option_map (λ (r : Kind × Place). r.1) (if c then b.here.results x else None)) (b.here.places x)) other)

-- a name that means a result has that result's place there
pub results_agree : (es : List Entry) (o : Owner) (b : Body) → ResultsAgree (statements_scope es o b) b.here.results
results_agree es o b = record { agree = λ x t r place kind is. there x t r place (b.here.names x) refl kind is } where
  placed : (x : List ℕ) (r : Kind) (place : Place) → is_called (b.here.names x) ≡ true → b.here.results x ≡ Some (r, place) → assigned_place b x ≡ Some place
  placed x r place called is =
      ap (λ (c : Bool). or_else (option_map (λ (z : Kind × Place). z.1) (if c then b.here.results x else None)) (b.here.places x)) called
      ∙ ap (λ (z : Option (Kind × Place)). or_else (option_map (λ (y : Kind × Place). y.1) z) (b.here.places x)) is

  there : (x : List ℕ) (t r : Kind) (place : Place) (s : Option Sort) → b.here.names x ≡ s → result_kind s ≡ Some t → b.here.results x ≡ Some (r, place)
      → assigned_place b x ≡ Some place
  there x t r place (Some (n.procedure p)) e kind is = placed x r place (ap is_called e) is
  there x t r place (Some (n.subroutine p)) e kind is = placed x r place (ap is_called e) is
  there x t r place None e kind is = cc
  there x t r place (Some (n.equate v)) e kind is = cc
  there x t r place (Some (n.simple k own)) e kind is = cc
  there x t r place (Some (n.array k own low high)) e kind is = cc
  there x t r place (Some (n.view k own base)) e kind is = cc
  there x t r place (Some (n.pointer k own)) e kind is = cc
  there x t r place (Some (n.value k)) e kind is = cc
  there x t r place (Some (n.by_reference k)) e kind is = cc
  there x t r place (Some (n.array_parameter k)) e kind is = cc
  there x t r place (Some n.label) e kind is = cc
  there x t r place (Some (n.intrinsic j)) e kind is = cc
  there x t r place (Some n.unknown) e kind is = cc

-- the spot of a way
spot_of : Spot → Way → Spot
spot_of other (body to) = to
spot_of other way = other

pub body_same : (one other : Spot) → body one ≡ body other → one ≡ other
unfolding spot_of
body_same one other e = ap (λ (w : Way). spot_of one w) e

-- where the ways out of a body lead
abbrev pub landing_at : (ℕ → Spot) → Spot → Option Landing → Spot
landing_at marks leave (Some l) = marks l.mark
landing_at marks leave None = leave

abbrev pub way_out : (List ℕ → Option Landing) → (ℕ → Spot) → Spot → Exit → Spot
way_out at marks leave (to_label y) = landing_at marks leave (at y)
way_out at marks leave back = leave
