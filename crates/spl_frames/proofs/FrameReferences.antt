-- Words, and where names lead: both are steady.
use Rattle.std.proofs.Common.{ℕ, zero, suc, ◌≡◌, ◌+◌, ◌/◌, ◌%◌, ◌==◌, Bool, true, false, List, [], ◌∷◌, length, Option, Some, None, refl, sym, ap, subst, ◌∙◌, arith}
use Rattle.std.specs.Prelude.{◌&&◌, if◌then◌else◌, nat_lt, nat_eq, is_some, slice_index, slice_set}
use Rattle.std.proofs.lemmas.Bool.{eqb-true}
use Rattle.std.proofs.lemmas.List.{length-set}
use Rattle.spl_meaning.specs.hp_word.declared.endings.Trap.TheVariants.{Bounds}
use Rattle.spl_meaning.specs.hp_word.Bits.{with_field}
use Rattle.spl_meaning.specs.hp_word.Bytes.{byte_at, with_byte}
use Rattle.spl_meaning.proofs.hp_word_proofs.FieldLemmas.{with_field-below}
use Rattle.spl_meaning.specs.spl_tree.declared.expressions.Kind.{Kind}
use Rattle.spl_meaning.specs.spl_tree.declared.expressions.Kind.TheVariants as kind
use Rattle.spl_meaning.specs.Places.{Place, put, changed, stored}
use Rattle.spl_meaning.specs.States.{Data, State, trapped, Outcome, done, ends, then_go}
use Rattle.spl_meaning.specs.References.{Here, Located, address_of, data_word_read, word_at, placed_word, variable_located, element_located, word_read, read_by, read, word_stored, store_by, store, store_field, index_or_zero, own_located, led_located, passed_located, result_located, Access, its_own, by_address, by_cell, its_result, nowhere, access_of, target_access, locate_by, locate, locate_target}
use Rattle.spl_frames.specs.Frames as frame
use Rattle.spl_frames.specs.Words.{AllOf}
use Rattle.spl_frames.proofs.Steady.{MemOf, Knowledge, Known, Any, Good, Steady, stays_on, steady_give, steady_done, steady_ends, steady_strays, steady_lost, steady_go, steady_if, steady_now, Stays, steady_in}

-- ---- words

steady_data_word : (v : Knowledge) (o : Option ℕ) → ((w : ℕ) → o ≡ Some w → v.W w) → Steady v v.W (data_word_read o)
steady_data_word v (Some w) h = steady_give v w (h w refl)
steady_data_word v None h = steady_strays v

-- a word of a list
pub all_index : (v : Knowledge) (ws : List ℕ) (i : ℕ) → AllOf v.W ws → v.W (slice_index ws i)
all_index v [] i h = v.small 0 (omega arith)
all_index v (w ∷ ws) zero h = h.0
all_index v (w ∷ ws) (suc i) h = all_index v ws i h.1

all_set : (v : Knowledge) (ws : List ℕ) (i w : ℕ) → AllOf v.W ws → v.W w → AllOf v.W (slice_set ws i w)
all_set v [] i w h p = tt
all_set v (x ∷ ws) zero w h p = (p, h.1)
all_set v (x ∷ ws) (suc i) w h p = (h.0, all_set v ws i w h.1 p)

pub steady_word : (v : Knowledge) (far : Bool) (a : ℕ) → Steady v v.W (word_at far a)
steady_word v true a =
    steady_now (λ d s. if nat_lt a (length d.extra) then done (slice_index d.extra a) s else ends (trapped Bounds) s)
    (λ d h. steady_if (nat_lt a (length d.extra)) (steady_give v (slice_index d.extra a) (all_index v d.extra a h.extra)) (steady_ends v (trapped Bounds)))
steady_word v false a =
    steady_now (λ d s. if nat_lt a d.stack then data_word_read (d.mem a) s else ends (trapped Bounds) s)
    (λ d h. steady_if (nat_lt a d.stack) (steady_data_word v (d.mem a) (h.mem a)) (steady_ends v (trapped Bounds)))

-- a word that is put leaves all data words there
pub put_there : (a w : ℕ) (mem : ℕ → Option ℕ) (b : ℕ) → is_some (mem b) ≡ true → is_some (put a w mem b) ≡ true
put_there a w mem b m = by (nat_eq a b)
  where
    by : (t : Bool) → is_some (if t then Some w else mem b) ≡ true
    by true = refl
    by false = m

-- and makes none but at its address
pub put_no_other : (a w : ℕ) (mem : ℕ → Option ℕ) (b : ℕ) → (a ≡ b → ⊥) → is_some (mem b) ≡ false → is_some (put a w mem b) ≡ false
put_no_other a w mem b n m = by (nat_eq a b) refl
  where
    by : (t : Bool) → nat_eq a b ≡ t → is_some (if t then Some w else mem b) ≡ false
    by true e = absurd (n (eqb-true a b e))
    by false e = m

-- where there is one, it makes none
put_in_place : (a w x : ℕ) (mem : ℕ → Option ℕ) (b : ℕ) → mem a ≡ Some x → is_some (mem b) ≡ false → is_some (put a w mem b) ≡ false
put_in_place a w x mem b e m =
    put_no_other a w mem b (λ q. let s : is_some (mem a) ≡ true = ap is_some e in
    let t : is_some (mem a) ≡ false = subst (λ (n : ℕ). is_some (mem n) ≡ false) (sym q) m in cc) m

pub mem_put : (v : Knowledge) (a w : ℕ) (mem : ℕ → Option ℕ) → MemOf v.W mem → v.W w → MemOf v.W (put a w mem)
mem_put v a w mem h p b u e = by (nat_eq a b) e
  where
    by : (t : Bool) → (if t then Some w else mem b) ≡ Some u → v.W u
    by true e = let q : w ≡ u = cc in subst (λ (n : ℕ). v.W n) q p
    by false e = h b u e

-- a word that is stored at a data word leaves the same data words
pub stored_there : (a w : ℕ) (mem : ℕ → Option ℕ) (b : ℕ) → is_some (stored a w mem b) ≡ is_some (mem b)
stored_there a w mem b = by (nat_eq a b) (mem b)
  where
    by : (t : Bool) (o : Option ℕ) → is_some (if t then changed o w else o) ≡ is_some o
    by true (Some x) = refl
    by true None = refl
    by false o = refl

pub mem_stored : (v : Knowledge) (a w : ℕ) (mem : ℕ → Option ℕ) → MemOf v.W mem → v.W w → MemOf v.W (stored a w mem)
mem_stored v a w mem h p b u e = by (nat_eq a b) (mem b) refl e
  where
    by : (t : Bool) (o : Option ℕ) → mem b ≡ o → (if t then changed o w else o) ≡ Some u → v.W u
    by true (Some x) m e = let q : w ≡ u = cc in subst (λ (n : ℕ). v.W n) q p
    by true None m e = cc
    by false o m e = h b u (m ∙ e)

-- a word in the extra segment
pub stays_far : (v : Knowledge) (a w : ℕ) → v.W w → Stays v (placed_word true a w)
stays_far v a w p = record {
  is = λ s. record {
    top = refl;
    base = refl;
    inner = refl;
    words = λ b l m. m;
    none = λ b m. m;
    stack = refl;
    room = refl;
    lines = refl;
    extra = length-set s.now.extra a w;
  };
  known = λ s h. record { mem = h.mem; extra = all_set v s.now.extra a w h.extra p; lines = h.lines };
}

-- a data word of the stack
pub stays_near : (a w x : ℕ) (d : Data) → d.mem a ≡ Some x → frame.Stays d (record d { mem = put a w d.mem })
stays_near a w x d e = record {
  top = refl;
  base = refl;
  inner = refl;
  words = λ b l m. put_there a w d.mem b m;
  none = λ b m. put_in_place a w x d.mem b e m;
  stack = refl;
  room = refl;
  lines = refl;
  extra = refl;
}

-- A part that reads a word, and goes on from a state in which there is one.
pub near_word : {A : Type 0} (P : A → Type 0) (v : Knowledge) (a : ℕ) (s : State) (go : ℕ → State → Outcome A) → Known v s.now
    → ((w : ℕ) → s.now.mem a ≡ Some w → Good v P s.now (go w s)) → Good v P s.now (then_go (word_at false a s) go)
near_word {A = A} P v a s go h k = by (nat_lt a s.now.stack) (s.now.mem a) refl
  where
    by : (t : Bool) (o : Option ℕ) → s.now.mem a ≡ o → Good v P s.now (then_go (if t then data_word_read o s else ends (trapped Bounds) s) go)
    by true (Some w) e = k w e
    by true None e = (tt, h)
    by false o e = (tt, h)

-- a word is stored where there is one: a function of it
pub steady_replaced : (v : Knowledge) (far : Bool) (a : ℕ) (f : ℕ → ℕ) → ((w : ℕ) → v.W w → v.W (f w))
    → Steady {A = Unit {0}} v Any (λ s. then_go (word_at far a s) (λ w s1. done tt (placed_word far a (f w) s1)))
steady_replaced v true a f p =
    steady_go (steady_word v true a) (λ w q. steady_in (stays_far v a (f w) (p w q)) (steady_done {A = Unit {0}} v tt))
steady_replaced v false a f p = record {
  is = λ s h. near_word Any v a s (λ w s1. done tt (placed_word false a (f w) s1)) h (λ w e. (
    stays_near a (f w) w s.now e,
    (tt, record { mem = mem_put v a (f w) s.now.mem h.mem (p w (h.mem a w e)); extra = h.extra; lines = h.lines }),
  ));
}

-- two words, where there are two
pub steady_replaced_two : (v : Knowledge) (far : Bool) (a b high low : ℕ) → v.W high → v.W low
    → Steady {A = Unit {0}} v Any (λ s. then_go (word_at far a s) (λ _ s1. then_go (word_at far b s1) (λ _ s2.
    done tt (placed_word far b low (placed_word far a high s2)))))
steady_replaced_two v true a b high low p q =
    steady_go (steady_word v true a) (λ _ _. steady_go (steady_word v true b) (λ _ _.
    steady_in (stays_far v a high p) (steady_in (stays_far v b low q) (steady_done {A = Unit {0}} v tt))))
steady_replaced_two v false a b high low p q = record {
  is = λ s h.
      near_word Any v a s (λ _ s1. then_go (word_at false b s1) (λ _ s2. done tt (placed_word false b low (placed_word false a high s2)))) h (λ x e.
      near_word Any v b s (λ _ s2. done tt (placed_word false b low (placed_word false a high s2))) h (λ y g.
      let d : Data = record s.now { mem = put a high s.now.mem } in
      let there : (z : ℕ) × (d.mem b ≡ Some z) = second a high s.now.mem b y g in (
        stays_on s.now d (record d { mem = put b low d.mem }) (stays_near a high x s.now e) (stays_near b low there.0 d there.1),
        (tt, record { mem = mem_put v b low d.mem (mem_put v a high s.now.mem h.mem p) q; extra = h.extra; lines = h.lines }),
      )));
}
  where
    second : (a high : ℕ) (mem : ℕ → Option ℕ) (b y : ℕ) → mem b ≡ Some y → (z : ℕ) × (put a high mem b ≡ Some z)
    second a high mem b y g = by (nat_eq a b)
      where
        by : (t : Bool) → (z : ℕ) × ((if t then Some high else mem b) ≡ Some z)
        by true = (high, refl)
        by false = (y, g)

-- ---- locations

steady_word_read : (v : Knowledge) (far : Bool) (a : ℕ) → Steady v (AllOf v.W) (word_read far a)
steady_word_read v far a = steady_go (steady_word v far a) (λ w p. steady_give v (w ∷ []) (p, tt))

steady_word_stored : (v : Knowledge) (far : Bool) (a : ℕ) (vs : List ℕ) → AllOf v.W vs → Steady v Any (word_stored far a vs)
steady_word_stored v far a [] p = steady_lost v
steady_word_stored v far a (w ∷ []) p = steady_replaced v far a (λ _. w) (λ _ _. p.0)
steady_word_stored v far a (w ∷ x ∷ vs) p = steady_lost v

-- a byte of a word
byte_known : (v : Knowledge) (a w : ℕ) → v.W w → v.W (byte_at a w)
unfolding byte_at
byte_known v a w p = by (a % 2 == 0)
  where
    by : (t : Bool) → v.W (if t then w / 256 else w % 256)
    by true = v.less w (w / 256) p (omega arith)
    by false = v.small (w % 256) (omega arith)

steady_read_by : (v : Knowledge) (k : Kind) (far : Bool) (a : ℕ) → Steady v (AllOf v.W) (read_by k far a)
steady_read_by v kind.Double far a =
    steady_go (steady_word v far a) (λ high p. steady_go (steady_word v far ((a + 1) % 65536)) (λ low q.
    steady_give v (high ∷ low ∷ []) (p, (q, tt))))
steady_read_by v kind.Byte far a =
    steady_go (steady_word v far (a / 2)) (λ w p. steady_give v (byte_at a w ∷ []) (byte_known v a w p, tt))
steady_read_by v kind.Integer far a = steady_word_read v far a
steady_read_by v kind.Logical far a = steady_word_read v far a

pub steady_read : (v : Knowledge) (p : Located) → Steady v (AllOf v.W) (read p)
steady_read v p = steady_read_by v p.kind p.far p.address

steady_store_by : (v : Knowledge) (k : Kind) (far : Bool) (a : ℕ) (vs : List ℕ) → AllOf v.W vs → Steady v Any (store_by k far a vs)
steady_store_by v kind.Double far a [] p = steady_lost v
steady_store_by v kind.Double far a (h ∷ []) p = steady_lost v
steady_store_by v kind.Double far a (high ∷ low ∷ []) p = steady_replaced_two v far a ((a + 1) % 65536) high low p.0 p.1.0
steady_store_by v kind.Double far a (h ∷ l ∷ w ∷ vs) p = steady_lost v
steady_store_by v kind.Byte far a [] p = steady_lost v
steady_store_by v kind.Byte far a (x ∷ []) p = steady_replaced v far (a / 2) (with_byte a (x % 256)) (λ w q. v.byte a x w q)
steady_store_by v kind.Byte far a (x ∷ w ∷ vs) p = steady_lost v
steady_store_by v kind.Integer far a vs p = steady_word_stored v far a vs p
steady_store_by v kind.Logical far a vs p = steady_word_stored v far a vs p

pub steady_store : (v : Knowledge) (p : Located) (vs : List ℕ) → AllOf v.W vs → Steady v Any (store p vs)
steady_store v p vs q = steady_store_by v p.kind p.far p.address vs q

-- one value that may be stored: of a BYTE any number
abbrev pub Storable : Knowledge → Kind → ℕ → Type 0
Storable v kind.Byte x = Unit {0}
Storable v _ x = v.W x

pub steady_store_one : (v : Knowledge) (p : Located) (x : ℕ) → Storable v p.kind x → Steady v Any (store p (x ∷ []))
steady_store_one v p x h = by p.kind h
  where
    by : (k : Kind) → Storable v k x → Steady v Any (store_by k p.far p.address (x ∷ []))
    by kind.Byte h = steady_replaced v p.far (p.address / 2) (with_byte p.address (x % 256)) (λ w q. v.byte p.address x w q)
    by kind.Integer h = steady_store_by v kind.Integer p.far p.address (x ∷ []) (h, tt)
    by kind.Logical h = steady_store_by v kind.Logical p.far p.address (x ∷ []) (h, tt)
    by kind.Double h = steady_lost v

pub steady_store_field : (v : Knowledge) (p : Located) (start size : ℕ) (vs : List ℕ) → Steady v Any (store_field p start size vs)
steady_store_field v p start size [] = steady_lost v
steady_store_field v p start size (x ∷ []) =
    steady_replaced v p.far p.address (λ w. with_field w start size x) (λ w q. v.small (with_field w start size x) (with_field-below w start size x))
steady_store_field v p start size (x ∷ w ∷ vs) = steady_lost v

steady_own : (v : Knowledge) (k : Kind) (p : Option Place) (i : Option ℕ) → Steady v Any (own_located k p i)
steady_own v k (Some p) None =
    steady_now (λ d s. done (variable_located k (address_of p d)) s) (λ d h. steady_done v (variable_located k (address_of p d)))
steady_own v k (Some p) (Some i) = steady_lost v
steady_own v k None i = steady_lost v

steady_led : (v : Knowledge) (far : Bool) (k : Kind) (p : Option Place) (i : ℕ) → Steady v Any (led_located far k p i)
steady_led v far k (Some p) i =
    steady_now (λ d s. then_go (word_at false (address_of p d) s) (λ cell s1. done (element_located far k cell i) s1))
    (λ d h. steady_go (steady_word v false (address_of p d)) (λ cell _. steady_done v (element_located far k cell i)))
steady_led v far k None i = steady_lost v

steady_passed : (v : Knowledge) (k : Kind) (p : Option Place) (i : Option ℕ) → Steady v Any (passed_located k p i)
steady_passed v k p None = steady_led v false k p 0
steady_passed v k p (Some i) = steady_lost v

steady_result : (v : Knowledge) (r : Option (Kind × Place)) (i : Option ℕ) → Steady v Any (result_located r i)
steady_result v (Some r) None =
    steady_now (λ d s. done (variable_located r.0 (address_of r.1 d)) s) (λ d h. steady_done v (variable_located r.0 (address_of r.1 d)))
steady_result v (Some r) (Some i) = steady_lost v
steady_result v None i = steady_lost v

steady_locate_by : (v : Knowledge) (h : Here) (x : List ℕ) (o : Access) (i : Option ℕ) → Steady v Any (locate_by h x o i)
steady_locate_by v h x (its_own k) i = steady_own v k (h.places x) i
steady_locate_by v h x (by_address k) i = steady_passed v k (h.places x) i
steady_locate_by v h x (by_cell p k) i = steady_led v (p && h.setting.split) k (h.places x) (index_or_zero i)
steady_locate_by v h x its_result i = steady_result v (h.results x) i
steady_locate_by v h x nowhere i = steady_lost v

pub steady_locate : (v : Knowledge) (h : Here) (x : List ℕ) (i : Option ℕ) → Steady v Any (locate h x i)
steady_locate v h x i = steady_locate_by v h x (access_of (h.names x)) i

pub steady_target : (v : Knowledge) (h : Here) (x : List ℕ) (i : Option ℕ) → Steady v Any (locate_target h x i)
steady_target v h x i = steady_locate_by v h x (target_access (h.names x)) i
