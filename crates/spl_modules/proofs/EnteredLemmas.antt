-- Modules in a list by the numbers of their segments: one more that is empty, and one with an entry more.
use Rattle.std.proofs.Common.{ℕ, zero, suc, ◌≡◌, ◌<◌, ◌≤◌, arith, Bool, true, false, nat_eq, List, [], ◌∷◌, ◌++◌, map, length, get_or, slice_set, refl, sym, ap, subst, ◌∙◌, inl, inr, ◌⊎◌}
use Rattle.std.proofs.lemmas.Bool.Decides.{eqb_tells}
use Rattle.std.specs.Prelude.{if◌then◌else◌}
use Rattle.spl_sound.specs.spl_meaning.Names.{find}
use Rattle.spl_places.specs.NameMaps.{entries_of}
use Rattle.spl_branch.specs.declared.buffer.Entry as code
use Rattle.spl_modules.specs.declared.modules.ModuleEntries.{ModuleEntries}
use Rattle.spl_modules.specs.Made.{Made, made_of}
use Rattle.spl_modules.specs.Entered.{Indexes, Entered, made_at, procedures_at, entered_of, and_made, and_procedure, with_entry}

-- ---- an empty module more

made_pushed : (ms : List ModuleEntries) (m : ModuleEntries) (g : ℕ) → map made_of m.entries.items ≡ [] → made_at (ms ++ m ∷ []) g ≡ made_at ms g
made_pushed [] m zero none = none
made_pushed [] m (suc g) none = refl
made_pushed (n ∷ ms) m zero none = refl
made_pushed (n ∷ ms) m (suc g) none = made_pushed ms m g none

procedures_pushed : (ms : List ModuleEntries) (m : ModuleEntries) (g : ℕ) → find (entries_of m.procedures) ≡ find [] → procedures_at (ms ++ m ∷ []) g ≡ procedures_at ms g
procedures_pushed [] m zero none = none
procedures_pushed [] m (suc g) none = refl
procedures_pushed (n ∷ ms) m zero none = refl
procedures_pushed (n ∷ ms) m (suc g) none = procedures_pushed ms m g none

pub entered_pushed : (ms new : List ModuleEntries) (m : ModuleEntries) → new ≡ ms ++ m ∷ [] → map made_of m.entries.items ≡ [] → find (entries_of m.procedures) ≡ find []
    → entered_of new ≡ entered_of ms
entered_pushed ms new m is none unnamed =
    ap entered_of is ∙ (λ i. record { made = λ g. made_pushed ms m g none i; procedures = λ g. procedures_pushed ms m g unnamed i })

-- ---- an entry more in a module that is there

-- what holds at a number and at the others
pick : {A : Type 0} (new old with' : ℕ → A) (i h : ℕ) → new i ≡ with' i → ((i ≡ h → ⊥) → new h ≡ old h) → new h ≡ (if nat_eq i h then with' h else old h)
pick {A} new old with' i h same others = by (eqb_tells i h)
  where
    by : ((nat_eq i h ≡ true) × (i ≡ h)) ⊎ ((nat_eq i h ≡ false) × (i ≡ h → ⊥)) → new h ≡ (if nat_eq i h then with' h else old h)
    by (inl t) = subst (λ (k : ℕ). new k ≡ with' k) t.1 same ∙ ap (λ (b : Bool). if b then with' h else old h) (sym t.0)
    by (inr t) = others t.1 ∙ ap (λ (b : Bool). if b then with' h else old h) (sym t.0)

made_same : (ms : List ModuleEntries) (i : ℕ) (m : ModuleEntries) → i < length ms → made_at (slice_set ms i m) i ≡ map made_of m.entries.items
made_same [] i m lt = absurd (omega (arith, lt))
made_same (n ∷ ms) zero m lt = refl
made_same (n ∷ ms) (suc i) m lt = made_same ms i m (omega (arith, lt))

made_others : (ms : List ModuleEntries) (i h : ℕ) (m : ModuleEntries) → (i ≡ h → ⊥) → made_at (slice_set ms i m) h ≡ made_at ms h
made_others [] i h m ne = refl
made_others (n ∷ ms) zero zero m ne = absurd (ne refl)
made_others (n ∷ ms) zero (suc h) m ne = refl
made_others (n ∷ ms) (suc i) zero m ne = refl
made_others (n ∷ ms) (suc i) (suc h) m ne = made_others ms i h m (λ is. ne (ap suc is))

pub made_there : (ms : List ModuleEntries) (i : ℕ) (m : ModuleEntries) → i < length ms → m ≡ get_or ms i m → made_at ms i ≡ map made_of m.entries.items
made_there [] i m lt is = absurd (omega (arith, lt))
made_there (n ∷ ms) zero m lt is = ap (λ (k : ModuleEntries). map made_of k.entries.items) (sym is)
made_there (n ∷ ms) (suc i) m lt is = made_there ms i m (omega (arith, lt)) is

procedures_same : (ms : List ModuleEntries) (i : ℕ) (m : ModuleEntries) → i < length ms → procedures_at (slice_set ms i m) i ≡ find (entries_of m.procedures)
procedures_same [] i m lt = absurd (omega (arith, lt))
procedures_same (n ∷ ms) zero m lt = refl
procedures_same (n ∷ ms) (suc i) m lt = procedures_same ms i m (omega (arith, lt))

procedures_others : (ms : List ModuleEntries) (i h : ℕ) (m : ModuleEntries) → (i ≡ h → ⊥) → procedures_at (slice_set ms i m) h ≡ procedures_at ms h
procedures_others [] i h m ne = refl
procedures_others (n ∷ ms) zero zero m ne = absurd (ne refl)
procedures_others (n ∷ ms) zero (suc h) m ne = refl
procedures_others (n ∷ ms) (suc i) zero m ne = refl
procedures_others (n ∷ ms) (suc i) (suc h) m ne = procedures_others ms i h m (λ is. ne (ap suc is))

procedures_there : (ms : List ModuleEntries) (i : ℕ) (m : ModuleEntries) → i < length ms → m ≡ get_or ms i m → procedures_at ms i ≡ find (entries_of m.procedures)
procedures_there [] i m lt is = absurd (omega (arith, lt))
procedures_there (n ∷ ms) zero m lt is = ap (λ (k : ModuleEntries). find (entries_of k.procedures)) (sym is)
procedures_there (n ∷ ms) (suc i) m lt is = procedures_there ms i m (omega (arith, lt)) is

pub entered_set : (ms : List ModuleEntries) (i : ℕ) (m new : ModuleEntries) (x : List ℕ) (callable : Bool) → i < length ms → m ≡ get_or ms i m
    → map made_of new.entries.items ≡ and_made (map made_of m.entries.items) x callable
    → find (entries_of new.procedures) ≡ and_procedure (find (entries_of m.procedures)) x callable (length (map made_of m.entries.items))
    → entered_of (slice_set ms i new) ≡ with_entry (entered_of ms) x i callable
entered_set ms i m new x callable lt is entries procedures =
    let made = made_there ms i m lt is in
    let has = procedures_there ms i m lt is in
    let made_new : made_at (slice_set ms i new) i ≡ and_made (made_at ms i) x callable =
    made_same ms i new lt ∙ entries ∙ ap (λ (es : List Made). and_made es x callable) (sym made) in
    let has_new : procedures_at (slice_set ms i new) i ≡ and_procedure (procedures_at ms i) x callable (length (made_at ms i)) =
    procedures_same ms i new lt ∙ procedures
    ∙ ap (λ (f : Indexes). and_procedure f x callable (length (map made_of m.entries.items))) (sym has)
    ∙ ap (λ (es : List Made). and_procedure (procedures_at ms i) x callable (length es)) (sym made) in
    λ j. record {
      made = λ h.
          pick (made_at (slice_set ms i new)) (made_at ms) (λ k. and_made (made_at ms k) x callable) i h made_new
          (λ ne. made_others ms i h new ne) j;
      procedures = λ h.
          pick (procedures_at (slice_set ms i new)) (procedures_at ms) (λ k. and_procedure (procedures_at ms k) x callable (length (made_at ms k))) i h
          has_new (λ ne. procedures_others ms i h new ne) j;
    }

-- ---- behind modules that were made

pub entered_there : (old ms : List ModuleEntries) (g i k : ℕ) (m : ModuleEntries) → i ≡ g → g < length ms → m ≡ get_or ms i m → entered_of ms ≡ entered_of old
    → k ≡ length (map made_of m.entries.items) → k ≡ length (made_at old g)
entered_there old ms g i k m at lt is same counted =
    counted ∙ ap (λ (es : List Made). length es) (sym (made_there ms i m (omega (arith, lt, at)) is))
    ∙ ap (λ (t : Entered). length (t.made i)) same ∙ ap (λ (h : ℕ). length (made_at old h)) at

pub entered_in : (old ms : List ModuleEntries) (g i : ℕ) (m new : ModuleEntries) (x : List ℕ) (callable : Bool) → i ≡ g → g < length ms → m ≡ get_or ms i m
    → entered_of ms ≡ entered_of old
    → map made_of new.entries.items ≡ and_made (map made_of m.entries.items) x callable
    → find (entries_of new.procedures) ≡ and_procedure (find (entries_of m.procedures)) x callable (length (map made_of m.entries.items))
    → entered_of (slice_set ms i new) ≡ with_entry (entered_of old) x g callable
entered_in old ms g i m new x callable at lt is same entries procedures =
    entered_set ms i m new x callable (omega (arith, lt, at)) is entries procedures
    ∙ ap (λ (t : Entered). with_entry t x i callable) same ∙ ap (λ (h : ℕ). with_entry (entered_of old) x h callable) at

-- ---- a segment that has no module

pub made_past : (ms : List ModuleEntries) (g : ℕ) → length ms ≤ g → made_at ms g ≡ []
made_past [] g le = refl
made_past (n ∷ ms) zero le = absurd (omega (arith, le))
made_past (n ∷ ms) (suc g) le = made_past ms g (omega (arith, le))

pub procedures_past : (ms : List ModuleEntries) (g : ℕ) → length ms ≤ g → procedures_at ms g ≡ find []
procedures_past [] g le = refl
procedures_past (n ∷ ms) zero le = absurd (omega (arith, le))
procedures_past (n ∷ ms) (suc g) le = procedures_past ms g (omega (arith, le))

-- ---- a module by the number of its segment

pub made_found : (ms : List ModuleEntries) (g i n : ℕ) (m : ModuleEntries) (es : List code.Entry) → i ≡ g → n ≡ length ms → i < n → m ≡ get_or ms i m
    → es ≡ m.entries.items → map made_of es ≡ made_at ms g
made_found ms g i n m es at many lt is same =
    ap (λ (xs : List code.Entry). map made_of xs) same ∙ sym (made_there ms i m (omega (arith, lt, many)) is) ∙ ap (λ (h : ℕ). made_at ms h) at

pub made_missing : (ms : List ModuleEntries) (g i n : ℕ) → i ≡ g → n ≡ length ms → n ≤ i → [] ≡ made_at ms g
made_missing ms g i n at many le = sym (made_past ms g (omega (arith, le, at, many)))

pub procedures_found : (ms : List ModuleEntries) (g i n : ℕ) (m : ModuleEntries) → i ≡ g → n ≡ length ms → i < n → m ≡ get_or ms i m
    → find (entries_of m.procedures) ≡ procedures_at ms g
procedures_found ms g i n m at many lt is = sym (procedures_there ms i m (omega (arith, lt, many)) is) ∙ ap (λ (h : ℕ). procedures_at ms h) at

pub procedures_missing : (ms : List ModuleEntries) (g i n : ℕ) → i ≡ g → n ≡ length ms → n ≤ i → find [] ≡ procedures_at ms g
procedures_missing ms g i n at many le = sym (procedures_past ms g (omega (arith, le, at, many)))
