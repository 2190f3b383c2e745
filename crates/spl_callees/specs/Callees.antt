-- The procedures of a program that may be called, and the subroutines of bodies: where the code of each stands, and how the calls in a body find it.
use Rattle.std.specs.Prelude.{◌≡◌, ℕ, Bool, true, false, is_some, List, [], Option, Some, None}
use Rattle.spl_subroutines.specs.hp_instr.declared.instruction.Instr.TheVariants as i
use Rattle.spl_subroutines.specs.spl_meaning.Bodies.{Body, Named, body_named, subroutine_body}
use Rattle.spl_subroutines.specs.spl_meaning.Names as n
use Rattle.spl_subroutines.specs.spl_meaning.Names.{Profile, profile_of}
use Rattle.spl_subroutines.specs.spl_meaning.Tables.{Subroutine, subroutine_named}
use Rattle.spl_subroutines.specs.spl_meaning.Pending.{formals_words}
use Rattle.spl_subroutines.specs.spl_meaning.References.{Setting}
use Rattle.spl_subroutines.specs.spl_meaning.Runs.{calls}
use Rattle.spl_subroutines.specs.spl_meaning.Values.{Who, procedure, subroutine, Callee}
use Rattle.spl_links.specs.spl_code.Calls.{Scope}
use Rattle.spl_links.specs.spl_code.Parts.{Wanted}
use Rattle.spl_subroutines.specs.spl_follow.Calling.{Link}
use Rattle.spl_subroutines.specs.spl_follow.Doing.{body}
use Rattle.spl_subroutines.specs.spl_follow.Following.{Rate}
use Rattle.spl_subroutines.specs.spl_follow.Parts.{Exits}
use Rattle.spl_subroutines.specs.spl_follow.Simulating.{Surroundings}
use Rattle.spl_subroutines.specs.spl_follow.Spots.{Spot, Ground}
use Rattle.spl_subroutines.specs.spl_follow.Standing.{Sites}
use Rattle.spl_links.specs.spl_endings.Gates.{GatesLead}
use Rattle.spl_links.specs.Links.{links_of, MayCall}
use Rattle.spl_subroutines.specs.spl_procedures.Procedures.{ProcedureFramed, IsProcedure, ProcedureStatementsFollow}
use Rattle.spl_cells.specs.Settable.{are_settable}
use Rattle.spl_subroutines.specs.Subroutines.{SubroutineFramed, IsSubroutine, SubroutineStatementsFollow}

-- what the code of a body finds around it in a program
abbrev pub surrounded : (ground : Ground) → Rate → Sites → List Wanted → Setting → Exits → Surroundings
surrounded g w sites wants st x = record { ground = g; rate = w; sites = sites; wants = wants; setting = st; exits = x }

-- A call with the one profile is one with the other: the same result, and parameters of as many words. A heading that is FORWARD or EXTERNAL may name
-- its parameters otherwise than that with the body.
pub record CallsAlike (p q : Profile) : Type 0 where
  pub result : p.result ≡ q.result
  pub words : formals_words p.formals ≡ formals_words q.formals

-- the profile of a procedure by its name, as its body has it
abbrev pub profile_of_body : Option Body → Profile
profile_of_body (Some b) = b.profile
profile_of_body None = record { result = None; formals = []; split = false }

-- The calls in a body's code find what they name: each intrinsic that is wanted is served; and each procedure that may be called is called by PCAL,
-- with a profile like its own, where it is known to be entered. `Known` says of a name and a place that this is where a procedure of that name is
-- entered.
pub record Finds (may : Who → Bool) (Known : List ℕ → Spot → Type 0) (procedures : List Named) (c : Scope) (sites : Sites) (wants : List Wanted) : Type 0 where
  pub gates : GatesLead sites wants
  pub entry : (x : List ℕ) (k : Link) → links_of may c wants (procedure x) ≡ Some k → Spot
  pub known : (x : List ℕ) (k : Link) (is : links_of may c wants (procedure x) ≡ Some k) → Known x (entry x k is)
  pub leads : (x : List ℕ) (k : Link) (is : links_of may c wants (procedure x) ≡ Some k) → sites.ways k.wanted k.index ≡ body (entry x k is)
  pub by : (x : List ℕ) (k : Link) → links_of may c wants (procedure x) ≡ Some k → k.by ≡ i.Control 0 0
  pub profiles : (x : List ℕ) (k : Link) → links_of may c wants (procedure x) ≡ Some k → CallsAlike k.profile (profile_of_body (body_named procedures x))

-- ---- subroutines of a body

-- the profile of a subroutine by its name, as its heading has it
abbrev pub profile_within : Option Subroutine → Profile
profile_within (Some y) = profile_of y.heading
profile_within None = record { result = None; formals = []; split = false }

-- a setting in a body's frame: that of the body, or of a subroutine of it
pub record InFrame (st around : Setting) : Type 0 where
  pub split : st.split ≡ around.split
  pub below : st.below ≡ around.below

-- The calls in the code of a body, or of a subroutine of it, find the subroutines that they name: each that may be called there has an entry, leads to
-- where it is entered, and is called with a profile like that of its heading; and it is called within the body's frame.
pub record FindsWithin (may : Who → Bool) (entered : List ℕ → Spot) (b : Body) (c : Scope) (sites : Sites) (wants : List Wanted) (st : Setting) : Type 0 where
  pub entries : (x : List ℕ) (p : Profile) → may (subroutine x) ≡ true → c.names x ≡ Some (n.subroutine p) → is_some (c.subroutines x) ≡ true
  pub leads : (x : List ℕ) (k : Link) → links_of may c wants (subroutine x) ≡ Some k → sites.ways k.wanted k.index ≡ body (entered x)
  pub profiles : (x : List ℕ) (k : Link) → links_of may c wants (subroutine x) ≡ Some k
      → CallsAlike k.profile (profile_within (subroutine_named b.subroutines x))
  pub frame : (x : List ℕ) → may (subroutine x) ≡ true → InFrame st b.here.setting

-- A subroutine of a body: which it is, where its code stands, and that the machine follows its statement where calls in it do what they mean.
pub record SubroutineStood (g : Ground) (w : Rate) (may : Who → Bool) (Known : List ℕ → Spot → Type 0) (procedures : List Named) (b : Body)
    (entered : List ℕ → Spot) (x : List ℕ) : Type 0 where
  pub its : Subroutine
  pub is : subroutine_named b.subroutines x ≡ Some its
  pub scope : Scope
  pub sites : Sites
  pub wants : List Wanted
  pub exits : Exits
  pub finds : Finds may Known procedures scope sites wants
  pub within : FindsWithin may entered b scope sites wants (subroutine_body b its).here.setting
  pub first : Spot
  pub leave : Spot
  pub end : Spot
  pub framed : SubroutineFramed g w sites (subroutine_body b its) (entered x) first leave end
  pub what : IsSubroutine (subroutine_body b its)
  pub follows : (call : Callee) (d : ℕ) → MayCall may scope (surrounded g w sites wants (subroutine_body b its).here.setting exits) d call
      → SubroutineStatementsFollow g w (subroutine_body b its) call d first leave

-- the subroutines of a body that may be called in it, each where it is entered
pub record Within (g : Ground) (w : Rate) (may : Who → Bool) (Known : List ℕ → Spot → Type 0) (procedures : List Named) (b : Body) : Type 0 where
  pub entered : List ℕ → Spot
  pub stood : (x : List ℕ) → may (subroutine x) ≡ true → SubroutineStood g w may Known procedures b entered x

-- ---- procedures

-- A procedure that may be called, and is entered at a place: which body it has, where that one's code stands, and that the machine follows its
-- statements where calls in it do what they mean.
pub record Stood (g : Ground) (w : Rate) (may : Who → Bool) (Known : List ℕ → Spot → Type 0) (procedures : List Named) (x : List ℕ) (start : Spot) : Type 0 where
  pub its : Body
  pub is : body_named procedures x ≡ Some its
  pub scope : Scope
  pub sites : Sites
  pub wants : List Wanted
  pub exits : Exits
  pub finds : Finds may Known procedures scope sites wants
  pub first : Spot
  pub leave : Spot
  pub end : Spot
  pub framed : ProcedureFramed g w sites its start first leave end
  pub what : IsProcedure its
  pub settable : are_settable its ≡ true
  pub follows : (call : Callee) (d : ℕ) → MayCall may scope (surrounded g w sites wants its.here.setting exits) d call
      → ProcedureStatementsFollow g w its call d first leave

-- The same of a procedure with subroutines: in its body `own` may be called, procedures among those that may be called at all.
pub record StoodWithin (g : Ground) (w : Rate) (may : Who → Bool) (Known : List ℕ → Spot → Type 0) (procedures : List Named) (x : List ℕ) (start : Spot) : Type 0 where
  pub its : Body
  pub is : body_named procedures x ≡ Some its
  pub own : Who → Bool
  pub among : (y : List ℕ) → own (procedure y) ≡ true → may (procedure y) ≡ true
  pub inner : Within g w own Known procedures its
  pub scope : Scope
  pub sites : Sites
  pub wants : List Wanted
  pub exits : Exits
  pub finds : Finds own Known procedures scope sites wants
  pub within : FindsWithin own inner.entered its scope sites wants its.here.setting
  pub first : Spot
  pub leave : Spot
  pub end : Spot
  pub framed : ProcedureFramed g w sites its start first leave end
  pub what : IsProcedure its
  pub settable : are_settable its ≡ true
  pub follows : (call : Callee) (d : ℕ) → MayCall own scope (surrounded g w sites wants its.here.setting exits) d call
      → ProcedureStatementsFollow g w its call d first leave

-- ---- the laws

-- Where each procedure that may be called stands so, and each subroutine of a body that may be called in it, calls in the body that find them do what
-- they mean, whatever number of calls one within another that is. This is so whatever tells where procedures are entered.
abbrev pub CallsFollowWithin : (List ℕ → Spot → Type 0) → Type 0
CallsFollowWithin Known = (g : Ground) (w : Rate) (may : Who → Bool) (procedures : List Named)
    → ((x : List ℕ) (start : Spot) → may (procedure x) ≡ true → Known x start → StoodWithin g w may Known procedures x start)
    → (d : ℕ) (b : Body) (own : Who → Bool) → ((y : List ℕ) → own (procedure y) ≡ true → may (procedure y) ≡ true)
    → (inner : Within g w own Known procedures b)
    → (c : Scope) (sites : Sites) (wants : List Wanted) (st : Setting) (x : Exits) → Finds own Known procedures c sites wants
    → FindsWithin own inner.entered b c sites wants st → MayCall own c (surrounded g w sites wants st x) d (calls procedures d b)

-- So it is in bodies in which no subroutine may be called.
abbrev pub CallsFollowWhere : (List ℕ → Spot → Type 0) → Type 0
CallsFollowWhere Known = (g : Ground) (w : Rate) (may : Who → Bool) (procedures : List Named) → ((x : List ℕ) → may (subroutine x) ≡ false)
    → ((x : List ℕ) (start : Spot) → may (procedure x) ≡ true → Known x start → Stood g w may Known procedures x start)
    → (d : ℕ) (b : Body) (c : Scope) (sites : Sites) (wants : List Wanted) (st : Setting) (x : Exits) → Finds may Known procedures c sites wants
    → MayCall may c (surrounded g w sites wants st x) d (calls procedures d b)

-- one place for each name, say
abbrev pub CalleesFollow : Type 0
CalleesFollow = (entry : List ℕ → Spot) → CallsFollowWhere (λ x start. start ≡ entry x)

abbrev pub CalleesFollowWithin : Type 0
CalleesFollowWithin = (entry : List ℕ → Spot) → CallsFollowWithin (λ x start. start ≡ entry x)
