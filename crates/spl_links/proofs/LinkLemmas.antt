-- The call of a procedure or a subroutine stands where its link leads.
use Rattle.std.proofs.Common.{◌≡◌, ℕ, suc, ◌+◌, ◌<◌, ◌≤◌, Bool, true, false, List, [], ◌∷◌, ◌++◌, length, Option, None, Some, refl, ap, ◌∙◌, arith, nat_lt}
use Rattle.std.specs.Prelude.{◌&&◌, not, if◌then◌else◌, is_some, unwrap_or, position}
use Rattle.std.specs.List.{position_or_len, prefix_len}
use Rattle.std.specs.Bool.{beq}
use lib.Pointwise.{bytes_decides}
use Rattle.std.proofs.lemmas.Bool.{false≢true, ltb-true, ltb-false, lt-ltb}
use Rattle.std.proofs.lemmas.List.{length-append, append_assoc}
use Rattle.spl_intrinsics.specs.hp_instr.declared.instruction.Instr.{Instr}
use Rattle.spl_intrinsics.specs.hp_instr.declared.instruction.Instr.TheVariants as i
use Rattle.spl_intrinsics.specs.spl_branch.declared.pieces.Piece.{Piece}
use Rattle.spl_intrinsics.specs.spl_meaning.Laws.{IsFront}
use Rattle.spl_intrinsics.specs.spl_meaning.Names as n
use Rattle.spl_intrinsics.specs.spl_meaning.Names.{Sort, Profile}
use Rattle.spl_intrinsics.specs.spl_meaning.Values.{Who, procedure, subroutine, Callee}
use Rattle.spl_intrinsics.specs.spl_code.Calls.{Scope, procedure_called, subroutine_called, called}
use Rattle.spl_intrinsics.specs.spl_code.Parts.{Wanted, is_wanted, wanted_place, with_wanted}
use Rattle.spl_intrinsics.specs.spl_follow.Doing.{calling}
use Rattle.spl_intrinsics.specs.spl_follow.Leading.{Leads}
use Rattle.spl_intrinsics.specs.spl_follow.Simulating.{Surroundings}
use Rattle.spl_intrinsics.specs.spl_follow.Spots.{Spot, next_word, Point, on, Real}
use Rattle.spl_intrinsics.specs.spl_follow.Standing.{Stands}
use Rattle.spl_links.specs.Links.{procedure_link, name_link, subroutine_link, inner_link, links_of, in_mode, MayCall}
use Rattle.spl_links.specs.Laws.{CanCall, has_entry}

-- ---- the place of a want

-- how many pass from the front on is the same with more behind, where one does not pass
front_left : {A : Type 0} (q : A → Bool) (xs ys : List A) → prefix_len q xs < length xs → prefix_len q (xs ++ ys) ≡ prefix_len q xs
front_left q [] ys low = absurd (omega (arith, low))
front_left q (x ∷ xs) ys low = by (q x) low (λ h. front_left q xs ys h) where
  by : (b : Bool) → (if b then 1 + prefix_len q xs else 0) < suc (length xs)
      → (prefix_len q xs < length xs → prefix_len q (xs ++ ys) ≡ prefix_len q xs)
      → (if b then 1 + prefix_len q (xs ++ ys) else 0) ≡ (if b then 1 + prefix_len q xs else 0)
  by true h rest = ap (λ (k : ℕ). 1 + k) (rest (omega (arith, h)))
  by false h rest = refl

-- where all pass, and the next one does not, it is as many
front_all : {A : Type 0} (q : A → Bool) (xs : List A) (y : A) (ys : List A) → length xs ≤ prefix_len q xs → q y ≡ false
    → prefix_len q (xs ++ y ∷ ys) ≡ length xs
front_all q [] y ys high e = ap (λ (b : Bool). if b then 1 + prefix_len q ys else 0) e
front_all q (x ∷ xs) y ys high e = by (q x) high (λ h. front_all q xs y ys h e) where
  by : (b : Bool) → suc (length xs) ≤ (if b then 1 + prefix_len q xs else 0)
      → (length xs ≤ prefix_len q xs → prefix_len q (xs ++ y ∷ ys) ≡ length xs)
      → (if b then 1 + prefix_len q (xs ++ y ∷ ys) else 0) ≡ suc (length xs)
  by true h rest = let all = rest (omega (arith, h)) in omega (arith, all)
  by false h rest = absurd (omega (arith, h))

-- a place that there is
place_is : {A : Type 0} (p : A → Bool) (xs : List A) (k : ℕ) → position_or_len p xs ≡ k → k < length xs → position p xs ≡ Some k
place_is p xs k e low =
    ap (λ (b : Bool). if b then Some (position_or_len p xs) else None) (lt-ltb (position_or_len p xs) (length xs) (omega (arith, e, low)))
    ∙ ap (λ (i : ℕ). Some i) e

-- a want is itself
beq_same : (b : Bool) → beq b b ≡ true
beq_same true = refl
beq_same false = refl

wanted_same : (x : List ℕ) (gate : Bool) → is_wanted x gate (record { name = x; gate = gate }) ≡ true
wanted_same x gate = ap (λ (b : Bool). b && beq gate gate) ((bytes_decides x x).1 refl) ∙ beq_same gate

-- a name that was wanted at a call has the place there among all names that are wanted
pub wanted_found : (x : List ℕ) (gate : Bool) (ws all : List Wanted) → IsFront (with_wanted x gate ws) all
    → position (is_wanted x gate) all ≡ Some (wanted_place x gate ws)
wanted_found x gate ws all front = by (nat_lt (position_or_len p ws) (length ws)) refl front where
  p : Wanted → Bool
  p = is_wanted x gate

  want : Wanted
  want = record { name = x; gate = gate }

  by : (b : Bool) → nat_lt (position_or_len p ws) (length ws) ≡ b
      → IsFront (if is_some (if b then Some (position_or_len p ws) else None) then ws else ws ++ want ∷ []) all
      → position p all ≡ Some (unwrap_or (if b then Some (position_or_len p ws) else None) (length ws))
  by true e f =
      let low = ltb-true (position_or_len p ws) (length ws) e in
      let long = length-append ws f.rest in
      ap (λ (us : List Wanted). position p us) f.is
      ∙ place_is p (ws ++ f.rest) (position_or_len p ws) (front_left (λ u. not (p u)) ws f.rest low) (omega (arith, low, long))
  by false e f =
      let high = ltb-false (position_or_len p ws) (length ws) e in
      let long = length-append ws (want ∷ f.rest) in
      ap (λ (us : List Wanted). position p us) (f.is ∙ append_assoc ws (want ∷ []) f.rest)
      ∙ place_is p (ws ++ want ∷ f.rest) (length ws)
      (front_all (λ u. not (p u)) ws want f.rest high (ap (λ (b : Bool). not b) (wanted_same x gate))) (omega (arith, long))

-- ---- the call

-- where a call stands, and then other pieces: the link that it is by, and where that leads
pub record CallStands (z : Surroundings) (may : Who → Bool) (c : Scope) (who : Who) (p : Profile) (from : Point) (q : Spot) (rest : List Piece) : Type 0 where
  pub by : Instr
  pub wanted : Bool
  pub index : ℕ
  pub linked : links_of (in_mode z.setting.split may) c z.wants who ≡ Some (record { by = by; wanted = wanted; index = index; profile = p })
  pub behind : Spot
  pub leads : Leads z.ground from behind (calling by (z.sites.ways wanted index) behind)
  pub next : behind ≡ next_word from.at
  pub real : Real z.ground from.at
  pub stands : Stands z.ground z.sites (on behind) rest q

-- the link of a name that stands for a procedure that may be called
link_is : (may : Who → Bool) (c : Scope) (all : List Wanted) (x : List ℕ) (p : Profile) (entry place : Option ℕ) → may (procedure x) ≡ true
    → c.names x ≡ Some (n.procedure p) → c.procedures x ≡ entry → position (is_wanted x false) all ≡ place
    → links_of may c all (procedure x) ≡ procedure_link entry place p
link_is may c all x p entry place allowed named own there =
    ap (λ (b : Bool). if b then name_link c all x (c.names x) else None) allowed
    ∙ ap (λ (o : Option Sort). name_link c all x o) named
    ∙ ap (λ (o : Option ℕ). procedure_link o (position (is_wanted x false) all) p) own
    ∙ ap (λ (o : Option ℕ). procedure_link entry o p) there

procedure_stands : (z : Surroundings) (may : Who → Bool) (c : Scope) (x : List ℕ) (p : Profile) (from : Point) (q : Spot) (rest : List Piece)
    (o : Option ℕ) (h : ℕ) (ws : List Wanted) → CanCall may c z.setting.split (procedure x) p → c.procedures x ≡ o
    → Stands z.ground z.sites from ((procedure_called x o h ws).pieces ++ rest) q → IsFront (procedure_called x o h ws).wants z.wants
    → CallStands z may c (procedure x) p from q rest
procedure_stands z may c x p from q rest (Some entry) h ws can own s front = record {
  by = i.Control 0 0;
  wanted = false;
  index = entry;
  linked = link_is (in_mode z.setting.split may) c z.wants x p (Some entry) (position (is_wanted x false) z.wants) can.allowed can.named own refl;
  behind = s.0;
  leads = s.1;
  next = s.2;
  real = s.3;
  stands = s.4;
}
procedure_stands z may c x p from q rest None h ws can own s front = record {
  by = i.Control 0 0;
  wanted = true;
  index = wanted_place x false ws;
  linked = link_is (in_mode z.setting.split may) c z.wants x p None (Some (wanted_place x false ws)) can.allowed can.named own (wanted_found x false ws z.wants front);
  behind = s.0;
  leads = s.1;
  next = s.2;
  real = s.3;
  stands = s.4;
}

-- the link of a name that stands for a subroutine that may be called
inner_is : (may : Who → Bool) (c : Scope) (all : List Wanted) (x : List ℕ) (p : Profile) (entry : Option ℕ) → may (subroutine x) ≡ true
    → c.names x ≡ Some (n.subroutine p) → c.subroutines x ≡ entry → links_of may c all (subroutine x) ≡ subroutine_link entry p
inner_is may c all x p entry allowed named own =
    ap (λ (b : Bool). if b then inner_link c x (c.names x) else None) allowed
    ∙ ap (λ (o : Option Sort). inner_link c x o) named
    ∙ ap (λ (o : Option ℕ). subroutine_link o p) own

subroutine_stands : (z : Surroundings) (may : Who → Bool) (c : Scope) (x : List ℕ) (p : Profile) (from : Point) (q : Spot) (rest : List Piece)
    (o : Option ℕ) (h : ℕ) (ws : List Wanted) → CanCall may c z.setting.split (subroutine x) p → c.subroutines x ≡ o → is_some o ≡ true
    → Stands z.ground z.sites from ((subroutine_called o h ws).pieces ++ rest) q → CallStands z may c (subroutine x) p from q rest
subroutine_stands z may c x p from q rest (Some entry) h ws can own there s = record {
  by = i.Control 3 0;
  wanted = false;
  index = entry;
  linked = inner_is (in_mode z.setting.split may) c z.wants x p (Some entry) can.allowed can.named own;
  behind = s.0;
  leads = s.1;
  next = s.2;
  real = s.3;
  stands = s.4;
}
subroutine_stands z may c x p from q rest None h ws can own there s = absurd (false≢true there)

-- a call that may be made has its piece
pub entry_there : (may : Who → Bool) (c : Scope) (z : Surroundings) (d : ℕ) (call : Callee) (who : Who) (p : Profile) → MayCall may c z d call
    → CanCall may c z.setting.split who p → has_entry c who ≡ true
entry_there may c z d call (procedure x) p around can = refl
entry_there may c z d call (subroutine x) p around can = around.entries x p can.allowed can.named

pub call_stands : (z : Surroundings) (may : Who → Bool) (c : Scope) (who : Who) (p : Profile) (from : Point) (q : Spot) (rest : List Piece)
    (h : ℕ) (ws : List Wanted) → CanCall may c z.setting.split who p → has_entry c who ≡ true
    → Stands z.ground z.sites from ((called c who h ws).pieces ++ rest) q → IsFront (called c who h ws).wants z.wants → CallStands z may c who p from q rest
call_stands z may c (procedure x) p from q rest h ws can there s front = procedure_stands z may c x p from q rest (c.procedures x) h ws can refl s front
call_stands z may c (subroutine x) p from q rest h ws can there s front = subroutine_stands z may c x p from q rest (c.subroutines x) h ws can refl there s
