-- The entries of a module by name: each subroutine that a list of declarations has is an entry of its body's, in the segment of that body.
use Rattle.std.proofs.Common.{◌≡◌, ℕ, suc, ◌&&◌, nat_eq, Bool, true, false, if◌then◌else◌, List, [], ◌∷◌, ◌++◌, Option, Some, is_some, refl, ap, ◌∙◌, rules}
use Rattle.spl_sound_names.specs.spl_tree.DeclarationTrees as decl
use Rattle.spl_sound_names.specs.spl_tree.DeclarationTrees.{Declaration, Declarations}
use Rattle.spl_sound_names.specs.spl_meaning.Names.{Table, find, same_name}
use Rattle.spl_sound_names.specs.spl_meaning.Places.{only}
use Rattle.spl_piece_kinds.specs.spl_scopes.Entries.{Owner, main, routine, Callee, subroutine, Entry, is_inner, same_owner, indexes, in_segment, inner_entries, declared_entries, entries_among}
use Rattle.spl_sound_names.specs.Known.{has_inner}
use Rattle.spl_sound_names.proofs.Tables.{never}
use Rattle.spl_sound_beginnings.proofs.Statements.{if_more, if_later}

-- whether one of some entries passes a test and has a name
abbrev pub has_entry : (Callee → Bool) → List ℕ → List Entry → Bool
has_entry passes x [] = false
has_entry passes x (e ∷ es) = if passes e.callee && same_name x e.name then true else has_entry passes x es

-- ---- its index

index_more : (same later : Bool) (k : ℕ) (o : Option ℕ) → (later ≡ true → is_some o ≡ true) → (if same then true else later) ≡ true
    → is_some (if same then Some k else o) ≡ true
index_more true later k o there is = refl
index_more false later k o there is = there is

index_one : (b : Bool) (x name : List ℕ) (k : ℕ) (t : Table ℕ) (later : Bool) → (later ≡ true → is_some (find t x) ≡ true)
    → (if b && same_name x name then true else later) ≡ true → is_some (find (only b (name, k) ++ t) x) ≡ true
index_one true x name k t later there is = index_more (same_name x name) later k (find t x) there is
index_one false x name k t later there is = there is

pub index_there : (passes : Callee → Bool) (k : ℕ) (es : List Entry) (x : List ℕ) → has_entry passes x es ≡ true → is_some (find (indexes passes k es) x) ≡ true
index_there passes k [] x is = never is
index_there passes k (e ∷ es) x is =
    index_one (passes e.callee) x e.name k (indexes passes (suc k) es) (has_entry passes x es) (λ there. index_there passes (suc k) es x there) is

-- ---- in a segment

front_step : (passes : Callee → Bool) (x : List ℕ) (b : Bool) (e : Entry) (es fs : List Entry) → (has_entry passes x es ≡ true → has_entry passes x fs ≡ true)
    → has_entry passes x (if b then e ∷ es else es) ≡ true → has_entry passes x (if b then e ∷ fs else fs) ≡ true
front_step passes x true e es fs more is =
    if_more (passes e.callee && same_name x e.name) (has_entry passes x es) (has_entry passes x fs) more is
front_step passes x false e es fs more is = more is

pub front_in : (passes : Callee → Bool) (x : List ℕ) (g : ℕ) (es fs : List Entry) → has_entry passes x (in_segment g es) ≡ true
    → has_entry passes x (in_segment g (es ++ fs)) ≡ true
front_in passes x g [] fs is = never is
front_in passes x g (e ∷ es) fs is =
    front_step passes x (nat_eq e.segment g) e (in_segment g es) (in_segment g (es ++ fs)) (λ there. front_in passes x g es fs there) is

behind_step : (passes : Callee → Bool) (x : List ℕ) (b : Bool) (e : Entry) (fs : List Entry) → has_entry passes x fs ≡ true
    → has_entry passes x (if b then e ∷ fs else fs) ≡ true
behind_step passes x true e fs is = if_later (passes e.callee && same_name x e.name) (has_entry passes x fs) is
behind_step passes x false e fs is = is

pub behind_in : (passes : Callee → Bool) (x : List ℕ) (g : ℕ) (es fs : List Entry) → has_entry passes x (in_segment g fs) ≡ true
    → has_entry passes x (in_segment g (es ++ fs)) ≡ true
behind_in passes x g [] fs is = is
behind_in passes x g (e ∷ es) fs is = behind_step passes x (nat_eq e.segment g) e (in_segment g (es ++ fs)) (behind_in passes x g es fs is)

-- ---- of a body's subroutines

pub is_own : (o : Owner) → same_owner o o ≡ true
is_own main = refl
is_own (routine i) = same i
  where
    same : (k : ℕ) → nat_eq k k ≡ true
    same k = search rules

-- a subroutine in front
inner_step : (passes : Callee → Bool) (x : List ℕ) (b : Bool) (e : Entry) (es : List Entry) (later : Bool) → b ≡ true → passes e.callee ≡ true
    → (later ≡ true → has_entry passes x es ≡ true) → (if same_name x e.name then true else later) ≡ true → has_entry passes x (if b then e ∷ es else es) ≡ true
inner_step passes x true e es later here own more is =
    ap (λ (c : Bool). if c && same_name x e.name then true else has_entry passes x es) own ∙ if_more (same_name x e.name) later (has_entry passes x es) more is
inner_step passes x false e es later here own more is = never here

pub inner_there : (g seg : ℕ) → nat_eq seg g ≡ true → (o : Owner) (ds : Declarations) (x : List ℕ) → has_inner ds x ≡ true
    → has_entry (is_inner o) x (in_segment g (inner_entries seg o ds)) ≡ true
inner_there g seg here o decl.none x is = never is
inner_there g seg here o (decl.and (decl.Declaration.subroutine h s) ds) x is =
    inner_step (is_inner o) x (nat_eq seg g) (record { name = h.name; segment = seg; callee = subroutine o }) (in_segment g (inner_entries seg o ds)) (has_inner ds x)
    here (is_own o) (λ there. inner_there g seg here o ds x there) is
inner_there g seg here o (decl.and (decl.Declaration.data_items own k items) ds) x is = inner_there g seg here o ds x is
inner_there g seg here o (decl.and (decl.Declaration.equate es) ds) x is = inner_there g seg here o ds x is
inner_there g seg here o (decl.and (decl.Declaration.intrinsic xs) ds) x is = inner_there g seg here o ds x is
inner_there g seg here o (decl.and (decl.Declaration.label xs) ds) x is = inner_there g seg here o ds x is
inner_there g seg here o (decl.and (decl.Declaration.forward h) ds) x is = inner_there g seg here o ds x is
inner_there g seg here o (decl.and (decl.Declaration.external h) ds) x is = inner_there g seg here o ds x is
inner_there g seg here o (decl.and (decl.Declaration.procedure h items ss) ds) x is = inner_there g seg here o ds x is

-- those of a main body stand among all
pub main_there : (g seg : ℕ) → nat_eq seg g ≡ true → (n : ℕ) (ds : Declarations) (x : List ℕ) → has_inner ds x ≡ true
    → has_entry (is_inner main) x (in_segment g (entries_among seg n ds)) ≡ true
main_there g seg here n decl.none x is = never is
main_there g seg here n (decl.and (decl.Declaration.subroutine h s) ds) x is =
    inner_step (is_inner main) x (nat_eq seg g) (record { name = h.name; segment = seg; callee = subroutine main }) (in_segment g (entries_among seg n ds)) (has_inner ds x)
    here refl (λ there. main_there g seg here n ds x there) is
main_there g seg here n (decl.and (decl.Declaration.data_items own k items) ds) x is = main_there g seg here n ds x is
main_there g seg here n (decl.and (decl.Declaration.equate es) ds) x is = main_there g seg here n ds x is
main_there g seg here n (decl.and (decl.Declaration.intrinsic xs) ds) x is = main_there g seg here n ds x is
main_there g seg here n (decl.and (decl.Declaration.label xs) ds) x is = main_there g seg here n ds x is
main_there g seg here n (decl.and (decl.Declaration.forward h) ds) x is = main_there g seg here n ds x is
main_there g seg here n (decl.and (decl.Declaration.external h) ds) x is = main_there g seg here n ds x is
main_there g seg here n (decl.and (decl.Declaration.procedure h items ss) ds) x is =
    behind_in (is_inner main) x g (declared_entries seg n (decl.Declaration.procedure h items ss)) (entries_among seg (suc n) ds) (main_there g seg here (suc n) ds x is)
