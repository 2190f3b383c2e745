-- Calls of procedures and subroutines, by the number of calls one within another.
-- 1. a call of a procedure that stands, where calls in it are followed     (outer_callee)
-- 2. one of a subroutine of the body, likewise                            (inner_callee)
-- 3. so calls are followed with one more around them                      (around)
-- 4. and where no subroutine may be called, none has to stand             (calls_follow)
use Rattle.std.proofs.Common.{◌≡◌, ℕ, zero, suc, ◌+◌, ◌-◌, ◌<◌, Bool, true, false, List, ◌++◌, length, replicate, Option, Some, refl, sym, ap, subst, ◌∙◌, arith}
use Rattle.spl_subroutines.specs.hp_session.State.{Machine}
use Rattle.spl_subroutines.specs.spl_tree.declared.expressions.Kind.{Kind}
use Rattle.std.specs.Prelude.{None, not, ◌&&◌, unwrap_or, if◌then◌else◌}
use Rattle.std.proofs.lemmas.Bool.{false≢true}
use Rattle.spl_subroutines.specs.hp_instr.declared.instruction.Instr.TheVariants as i
use Rattle.spl_subroutines.specs.spl_meaning.Bodies.{Body, Named, body_named, subroutine_body}
use Rattle.spl_subroutines.specs.spl_meaning.Tables.{Subroutine}
use Rattle.spl_subroutines.specs.spl_meaning.Names as n
use Rattle.spl_subroutines.specs.spl_meaning.Kinds.{result_width}
use Rattle.spl_subroutines.specs.spl_meaning.Names.{Sort, Profile, profile_of}
use Rattle.spl_subroutines.specs.spl_meaning.Pending.{result_words}
use Rattle.spl_subroutines.specs.spl_meaning.References.{Setting}
use Rattle.spl_subroutines.specs.spl_meaning.Runs.{call_procedure, call_subroutine, calls}
use Rattle.spl_subroutines.specs.spl_meaning.States.{Data, State, Begun}
use Rattle.spl_subroutines.specs.spl_meaning.Values.{Who, procedure, subroutine}
use Rattle.spl_links.specs.spl_code.Calls.{Scope}
use Rattle.spl_links.specs.spl_code.Parts.{Wanted}
use Rattle.spl_subroutines.specs.spl_follow.Calling.{Link, Calling, result_of, IsResult}
use Rattle.spl_subroutines.specs.spl_follow.Doing.{Way, calling}
use Rattle.spl_subroutines.specs.spl_follow.Following.{Rate, tally_with, Follows, NoExit}
use Rattle.spl_subroutines.specs.spl_follow.Leading.{Leads}
use Rattle.spl_subroutines.specs.spl_follow.Matching.{Matched, Stand, IsValue}
use Rattle.spl_subroutines.specs.spl_follow.Parts.{Exits}
use Rattle.spl_subroutines.specs.spl_follow.Spots.{Spot, next_word, pos, Point, Ground}
use Rattle.spl_subroutines.specs.spl_follow.Standing.{Sites}
use Rattle.spl_subroutines.proofs.spl_follow_proofs.FollowLemmas.{weaken}
use Rattle.spl_links.specs.Links.{name_link, subroutine_link, inner_link, links_of, in_mode, MayCall}
use Rattle.spl_cells.specs.Laws.{SettableProceduresAreCalled}
use Rattle.spl_subroutines.specs.Laws.{SubroutinesAreCalled}
use Rattle.spl_subroutines.specs.Subroutines.{subroutine_setting}
use Rattle.spl_callees.specs.Callees.{surrounded, CallsAlike, profile_of_body, profile_within, InFrame, Finds, FindsWithin, SubroutineStood, Within, Stood, StoodWithin}
use Rattle.spl_callees.specs.Callees.{CallsFollowWithin, CallsFollowWhere, CalleesFollow, CalleesFollowWithin}

-- ---- profiles

-- a call is about to be made with the one profile as with the other
calling_alike : (g : Ground) (st : Setting) (x : Link) (q : Profile) (p : Point) (k : ℕ) (vs : List ℕ) (s : State) (l : List Begun) (m : Machine)
    → CallsAlike x.profile q → Calling g st x p k vs s l m → Calling g st (record x { profile = q }) p k vs s l m
calling_alike g st x q p k vs s l m same c =
    let wide : result_words x.profile ≡ result_words q = ap result_width same.result in
    let room = c.room in
    record {
      at = c.at;
      real = c.real;
      owes = c.owes;
      matches = subst (λ (j : ℕ). Matched st s.now m (k + j + length vs)) wide c.matches;
      wide = c.wide ∙ same.words;
      stand = subst (λ (j : ℕ). Stand m.stack (s.now.top + k) (replicate j 0 ++ vs)) wide c.stand;
      small = c.small;
      silent = c.silent;
      room = omega (arith, room, wide);
    }

-- and its result is that of the other
result_alike : (st : Setting) (r : Spot) (p q : Profile) (k : ℕ) (d : Data) (m : Machine) (vs : List ℕ) (s : State) (n : Machine) → CallsAlike p q
    → IsResult st r q k d m vs s n → IsResult st r p k d m vs s n
result_alike st r p q k d m vs s n same x = record {
  words = x.words;
  value = x.value ∙ ap (λ (o : Option Kind). result_of o x.words) (sym same.result);
  stands = subst (λ (o : Option Kind). IsValue st r (result_width o) k d m x.words s n) (sym same.result) x.stands;
}

-- ---- links

-- a name that is linked may be called
link_allowed : (may : Who → Bool) (c : Scope) (wants : List Wanted) (x : List ℕ) (k : Link) → links_of may c wants (procedure x) ≡ Some k → may (procedure x) ≡ true
link_allowed may c wants x k is = by (may (procedure x)) refl is where
  by : (b : Bool) → may (procedure x) ≡ b → (if b then name_link c wants x (c.names x) else None) ≡ Some k → may (procedure x) ≡ true
  by true e f = e
  by false e f = cc

-- a procedure that is linked in a mode is linked in any, and that is no split mode
link_whole : (split : Bool) (may : Who → Bool) (c : Scope) (wants : List Wanted) (x : List ℕ) (k : Link)
    → links_of (in_mode split may) c wants (procedure x) ≡ Some k → (split ≡ false) × (links_of may c wants (procedure x) ≡ Some k)
link_whole split may c wants x k is = by (may (procedure x)) split is where
  by : (a b : Bool) → (if a && not b then name_link c wants x (c.names x) else None) ≡ Some k
      → (b ≡ false) × ((if a then name_link c wants x (c.names x) else None) ≡ Some k)
  by true false f = (refl, f)
  by true true f = cc
  by false b f = cc

-- a subroutine that is linked may be called
inner_allowed : (may : Who → Bool) (c : Scope) (wants : List Wanted) (x : List ℕ) (k : Link) → links_of may c wants (subroutine x) ≡ Some k → may (subroutine x) ≡ true
inner_allowed may c wants x k is = by (may (subroutine x)) refl is where
  by : (b : Bool) → may (subroutine x) ≡ b → (if b then inner_link c x (c.names x) else None) ≡ Some k → may (subroutine x) ≡ true
  by true e f = e
  by false e f = cc

-- it is called by SCAL
entry_by : (o : Option ℕ) (p : Profile) (k : Link) → subroutine_link o p ≡ Some k → k.by ≡ i.Control 3 0
entry_by (Some entry) p k is = ap (λ (l : Link). l.by) (sym (ap (λ (o : Option Link). unwrap_or o k) is))
entry_by None p k is = cc

sort_by : (c : Scope) (x : List ℕ) (k : Link) (o : Option Sort) → inner_link c x o ≡ Some k → k.by ≡ i.Control 3 0
sort_by c x k (Some (n.subroutine p)) is = entry_by (c.subroutines x) p k is
sort_by c x k None is = cc
sort_by c x k (Some (n.equate v)) is = cc
sort_by c x k (Some (n.simple t own)) is = cc
sort_by c x k (Some (n.array t own low high)) is = cc
sort_by c x k (Some (n.view t own base)) is = cc
sort_by c x k (Some (n.pointer t own)) is = cc
sort_by c x k (Some (n.value t)) is = cc
sort_by c x k (Some (n.by_reference t)) is = cc
sort_by c x k (Some (n.array_parameter t)) is = cc
sort_by c x k (Some n.label) is = cc
sort_by c x k (Some (n.intrinsic j)) is = cc
sort_by c x k (Some (n.procedure p)) is = cc
sort_by c x k (Some n.unknown) is = cc

inner_by : (may : Who → Bool) (c : Scope) (wants : List Wanted) (x : List ℕ) (k : Link) → links_of may c wants (subroutine x) ≡ Some k → k.by ≡ i.Control 3 0
inner_by may c wants x k is = by (may (subroutine x)) is where
  by : (b : Bool) → (if b then inner_link c x (c.names x) else None) ≡ Some k → k.by ≡ i.Control 3 0
  by true f = sort_by c x k (c.names x) f
  by false f = cc

-- the profile of a body that is there
profile_is : (o : Option Body) (b : Body) → o ≡ Some b → profile_of_body o ≡ b.profile
profile_is o b e = ap profile_of_body e

-- a subroutine goes on in the frame of whoever calls it within the body
setting_is : (b : Body) (y : Subroutine) (st : Setting) → InFrame st b.here.setting
    → (subroutine_body b y).here.setting ≡ subroutine_setting st (subroutine_body b y).profile
setting_is b y st f =
    ap (λ (i : Bool). record (subroutine_body b y).here.setting { split = i }) (sym f.split)
    ∙ ap (λ (i : ℕ). record (subroutine_setting st (profile_of y.heading)) { below = i }) (sym f.below)

-- ---- calls

module _ (called : SettableProceduresAreCalled) (inside : SubroutinesAreCalled) (g : Ground) (w : Rate) (may : Who → Bool) (Known : List ℕ → Spot → Type 0)
    (procedures : List Named)
    (stood : (x : List ℕ) (start : Spot) → may (procedure x) ≡ true → Known x start → StoodWithin g w may Known procedures x start) where
  -- what the calls in a procedure that stands find around them
  abbrev Inner : ℕ → Type 0
  Inner d = (x : List ℕ) (start : Spot) (h : StoodWithin g w may Known procedures x start)
      → MayCall h.own h.scope (surrounded g w h.sites h.wants h.its.here.setting h.exits) d (calls procedures d h.its)

  -- and those in a subroutine of a body
  abbrev InnerWithin : ℕ → Body → (Who → Bool) → (List ℕ → Spot) → Type 0
  InnerWithin d b own entered = (x : List ℕ) (h : SubroutineStood g w own Known procedures b entered x)
      → MayCall own h.scope (surrounded g w h.sites h.wants (subroutine_body b h.its).here.setting h.exits) d (calls procedures d b)

  -- a call of a procedure, one call more around it
  outer_callee : (d : ℕ) (b : Body) (own : Who → Bool) → ((y : List ℕ) → own (procedure y) ≡ true → may (procedure y) ≡ true)
      → (c : Scope) (sites : Sites) (wants : List Wanted) (st : Setting) → Inner d → Finds own Known procedures c sites wants
      → st.split ≡ false → (y : List ℕ) (x : Link) → links_of own c wants (procedure y) ≡ Some x → (p : Point) (r : Spot) (k : ℕ) (vs : List ℕ) (s : State)
      (l : List Begun) (m : Machine) → Leads g p r (calling x.by (sites.ways x.wanted x.index) r) → r ≡ next_word p.at → Calling g st x p k vs s l m
      → s.left < suc d
      → Follows g w (pos r - pos p.at + w.step) 0 w.reach (tally_with l s) m (IsResult st r x.profile k s.now m) NoExit
      (calls procedures (suc d) b (procedure y) vs k s)
  outer_callee d b own among c sites wants st inner finds whole y x is p r k vs s l m leads next about low =
      let start = finds.entry y x is in
      let h = stood y start (among y (link_allowed own c wants y x is)) (finds.known y x is) in
      let alike : CallsAlike x.profile h.its.profile =
      subst (λ (q : Profile). CallsAlike x.profile q) (profile_is (body_named procedures y) h.its h.is) (finds.profiles y x is) in
      subst (λ (o : Option Body). Follows g w (pos r - pos p.at + w.step) 0 w.reach (tally_with l s) m (IsResult st r x.profile k s.now m) NoExit
      (call_procedure o (λ e. calls procedures d e) d vs k s)) (sym h.is)
      (weaken g w (pos r - pos p.at + w.step) 0 w.reach (tally_with l s) m (IsResult st r h.its.profile k s.now m) (IsResult st r x.profile k s.now m) NoExit NoExit
      (call_procedure (Some h.its) (λ e. calls procedures d e) d vs k s)
      (called g w h.sites h.its start h.first h.leave h.end (calls procedures d h.its) d h.framed h.what h.settable
      (h.follows (calls procedures d h.its) d (inner y start h)) st (record x { profile = h.its.profile }) p r k vs s l m whole (finds.by y x is) refl
      (subst (λ (way : Way). Leads g p r (calling x.by way r)) (finds.leads y x is) leads) next
      (calling_alike g st x h.its.profile p k vs s l m alike about) (omega (arith, low)))
      (λ us t n v less. result_alike st r x.profile h.its.profile k s.now m us t n alike v) (λ e t n no. no))

  -- and of a subroutine
  inner_callee : (d : ℕ) (b : Body) (own : Who → Bool) (within : Within g w own Known procedures b) (c : Scope) (sites : Sites) (wants : List Wanted) (st : Setting)
      → InnerWithin d b own within.entered → FindsWithin own within.entered b c sites wants st
      → (y : List ℕ) (x : Link) → links_of own c wants (subroutine y) ≡ Some x → (p : Point) (r : Spot) (k : ℕ) (vs : List ℕ) (s : State)
      (l : List Begun) (m : Machine) → Leads g p r (calling x.by (sites.ways x.wanted x.index) r) → r ≡ next_word p.at → Calling g st x p k vs s l m
      → s.left < suc d
      → Follows g w (pos r - pos p.at + w.step) 0 w.reach (tally_with l s) m (IsResult st r x.profile k s.now m) NoExit
      (calls procedures (suc d) b (subroutine y) vs k s)
  inner_callee d b own within c sites wants st inner finds y x is p r k vs s l m leads next about low =
      let allowed = inner_allowed own c wants y x is in
      let h = within.stood y allowed in
      let its : Body = subroutine_body b h.its in
      let alike : CallsAlike x.profile its.profile =
      subst (λ (o : Option Subroutine). CallsAlike x.profile (profile_within o)) h.is (finds.profiles y x is) in
      subst (λ (o : Option Subroutine). Follows g w (pos r - pos p.at + w.step) 0 w.reach (tally_with l s) m (IsResult st r x.profile k s.now m) NoExit
      (call_subroutine o b (calls procedures d b) d vs k s)) (sym h.is)
      (weaken g w (pos r - pos p.at + w.step) 0 w.reach (tally_with l s) m (IsResult st r its.profile k s.now m) (IsResult st r x.profile k s.now m) NoExit NoExit
      (call_subroutine (Some h.its) b (calls procedures d b) d vs k s)
      (inside g w h.sites its (within.entered y) h.first h.leave h.end (calls procedures d b) d h.framed h.what
      (h.follows (calls procedures d b) d (inner y h)) st (record x { profile = its.profile }) p r k vs s l m
      (setting_is b h.its st (finds.frame y allowed)) (inner_by own c wants y x is) refl
      (subst (λ (way : Way). Leads g p r (calling x.by way r)) (finds.leads y x is) leads) next
      (calling_alike g st x its.profile p k vs s l m alike about) (omega (arith, low)))
      (λ us t n v less. result_alike st r x.profile its.profile k s.now m us t n alike v) (λ e t n no. no))

  -- either
  callee : (d : ℕ) (b : Body) (own : Who → Bool) → ((y : List ℕ) → own (procedure y) ≡ true → may (procedure y) ≡ true)
      → (within : Within g w own Known procedures b) (c : Scope) (sites : Sites) (wants : List Wanted) (st : Setting) → Inner d → InnerWithin d b own within.entered
      → Finds own Known procedures c sites wants → FindsWithin own within.entered b c sites wants st → (who : Who) (x : Link)
      → links_of (in_mode st.split own) c wants who ≡ Some x → (p : Point) (r : Spot) (k : ℕ) (vs : List ℕ) (s : State)
      (l : List Begun) (m : Machine) → Leads g p r (calling x.by (sites.ways x.wanted x.index) r) → r ≡ next_word p.at → Calling g st x p k vs s l m
      → s.left < suc d
      → Follows g w (pos r - pos p.at + w.step) 0 w.reach (tally_with l s) m (IsResult st r x.profile k s.now m) NoExit (calls procedures (suc d) b who vs k s)
  callee d b own among within c sites wants st inner inner' finds found (procedure y) x is p r k vs s l m leads next about low =
      let two = link_whole st.split own c wants y x is in
      outer_callee d b own among c sites wants st inner finds two.0 y x two.1 p r k vs s l m leads next about low
  callee d b own among within c sites wants st inner inner' finds found (subroutine y) x is p r k vs s l m leads next about low =
      inner_callee d b own within c sites wants st inner' found y x is p r k vs s l m leads next about low

  around : (d : ℕ) (b : Body) (own : Who → Bool) → ((y : List ℕ) → own (procedure y) ≡ true → may (procedure y) ≡ true)
      → (within : Within g w own Known procedures b) (c : Scope) (sites : Sites) (wants : List Wanted) (st : Setting) (x : Exits)
      → Finds own Known procedures c sites wants → FindsWithin own within.entered b c sites wants st
      → MayCall own c (surrounded g w sites wants st x) d (calls procedures d b)
  around zero b own among within c sites wants st x finds found = record {
    gates = finds.gates;
    entries = found.entries;
    calls = λ who y is p r k vs s l m leads next about low. absurd (omega (arith, low));
  }
  around (suc d) b own among within c sites wants st x finds found = record {
    gates = finds.gates;
    entries = found.entries;
    calls = λ who y is p r k vs s l m leads next about low.
        callee d b own among within c sites wants st
        (λ y start h. around d h.its h.own h.among h.inner h.scope h.sites h.wants h.its.here.setting h.exits h.finds h.within)
        (λ y h. around d b own among within h.scope h.sites h.wants (subroutine_body b h.its).here.setting h.exits h.finds h.within)
        finds found who y is p r k vs s l m leads next about low;
  }

-- whatever tells where procedures are entered
pub calls_follow_within : SettableProceduresAreCalled → SubroutinesAreCalled → (Known : List ℕ → Spot → Type 0) → CallsFollowWithin Known
calls_follow_within called inside Known g w may procedures stood d b own among within c sites wants st x finds found =
    around called inside g w may Known procedures stood d b own among within c sites wants st x finds found

-- ---- where no subroutine may be called

none_within : (g : Ground) (w : Rate) (may : Who → Bool) (Known : List ℕ → Spot → Type 0) (procedures : List Named) (b : Body)
    → ((x : List ℕ) → may (subroutine x) ≡ false) → Within g w may Known procedures b
none_within g w may Known procedures b none = record {
  entered = λ x. record { seg = 0; offset = 0; right = false };
  stood = λ x e. absurd (false≢true (sym (none x) ∙ e));
}

none_found : (may : Who → Bool) (entered : List ℕ → Spot) (b : Body) (c : Scope) (sites : Sites) (wants : List Wanted) (st : Setting)
    → ((x : List ℕ) → may (subroutine x) ≡ false) → FindsWithin may entered b c sites wants st
none_found may entered b c sites wants st none = record {
  entries = λ x p e is. absurd (false≢true (sym (none x) ∙ e));
  leads = λ x k is. absurd (false≢true (sym (none x) ∙ inner_allowed may c wants x k is));
  profiles = λ x k is. absurd (false≢true (sym (none x) ∙ inner_allowed may c wants x k is));
  frame = λ x e. absurd (false≢true (sym (none x) ∙ e));
}

-- a procedure that stands without subroutines
stood_alone : (g : Ground) (w : Rate) (may : Who → Bool) (Known : List ℕ → Spot → Type 0) (procedures : List Named) (x : List ℕ) (start : Spot)
    → ((x : List ℕ) → may (subroutine x) ≡ false) → Stood g w may Known procedures x start → StoodWithin g w may Known procedures x start
stood_alone g w may Known procedures x start none h =
    let within = none_within g w may Known procedures h.its none in
    record {
      its = h.its;
      is = h.is;
      own = may;
      among = λ y e. e;
      inner = within;
      scope = h.scope;
      sites = h.sites;
      wants = h.wants;
      exits = h.exits;
      finds = h.finds;
      within = none_found may within.entered h.its h.scope h.sites h.wants h.its.here.setting none;
      first = h.first;
      leave = h.leave;
      end = h.end;
      framed = h.framed;
      what = h.what;
      settable = h.settable;
      follows = h.follows;
    }

pub calls_follow : SettableProceduresAreCalled → SubroutinesAreCalled → (Known : List ℕ → Spot → Type 0) → CallsFollowWhere Known
calls_follow called inside Known g w may procedures none stood d b c sites wants st x finds =
    let within = none_within g w may Known procedures b none in
    around called inside g w may Known procedures (λ y start e known. stood_alone g w may Known procedures y start none (stood y start e known)) d b may
    (λ y e. e) within c sites wants st x finds (none_found may within.entered b c sites wants st none)

-- ---- with one place for each name

pub callees_follow : SettableProceduresAreCalled → SubroutinesAreCalled → CalleesFollow
callees_follow called inside entry = calls_follow called inside (λ x start. start ≡ entry x)

pub callees_within : SettableProceduresAreCalled → SubroutinesAreCalled → CalleesFollowWithin
callees_within called inside entry = calls_follow_within called inside (λ x start. start ≡ entry x)
