-- Parts that want few names, put together.
use Rattle.std.proofs.Common.{◌≡◌, ◌≤◌, ℕ, suc, ◌+◌, Bool, true, false, if◌then◌else◌, List, [], ◌∷◌, ◌++◌, length, is_some, position, Option, Some, None, refl, ap, ◌∙◌, arith}
use Rattle.std.specs.List.{list_all}
use Rattle.std.proofs.lemmas.Bool.{and_from}
use Rattle.std.proofs.lemmas.List.Folds.{list_all-append}
use Rattle.spl_module_code.specs.spl_branch.declared.pieces.Piece.{Piece}
use Rattle.spl_module_code.specs.spl_meaning.Names.{intrinsic_named}
use Rattle.spl_module_code.specs.spl_code.Parts.{Part, Wanted, is_wanted, pieces, ◌⨟◌, with_fresh, call_wanted}
use Rattle.spl_wanted_names.specs.Wants.{names_gate, IsWanting}

same_or_more : (a n : ℕ) → a ≤ a + n
same_or_more a n = omega arith

further : (a m n b c : ℕ) → b ≤ a + m → c ≤ b + n → c ≤ a + (m + n)
further a m n b c first second = omega arith

wider : (a m n b : ℕ) → m ≤ n → b ≤ a + m → b ≤ a + n
wider a m n b le h = omega arith

pub wanting_less : {m n : ℕ} {p : Part} → m ≤ n → IsWanting m p → IsWanting n p
wanting_less {m} {n} {p} le a = record { few = λ l ws. wider (length ws) m n (length (p l ws).wants) le (a.few l ws); gates = a.gates }

pub wanting_pieces : {n : ℕ} (ps : List Piece) → IsWanting n (pieces ps)
wanting_pieces {n} ps = record { few = λ l ws. same_or_more (length ws) n; gates = λ l ws h. h }

pub wanting_then : {m n : ℕ} {p q : Part} → IsWanting m p → IsWanting n q → IsWanting (m + n) (p ⨟ q)
wanting_then {m} {n} {p} {q} a b = record {
  few = λ l ws. further (length ws) m n (length (p l ws).wants) (length ((p ⨟ q) l ws).wants) (a.few l ws) (b.few (l + (p l ws).marks) (p l ws).wants);
  gates = λ l ws h. b.gates (l + (p l ws).marks) (p l ws).wants (a.gates l ws h);
}

pub wanting_behind : {n : ℕ} {p : Part} (ps : List Piece) → IsWanting n p → IsWanting n (p ⨟ pieces ps)
wanting_behind {n} {p} ps a = record { few = a.few; gates = a.gates }

pub wanting_before : {n : ℕ} {q : Part} (ps : List Piece) → IsWanting n q → IsWanting n (pieces ps ⨟ q)
wanting_before {n} {q} ps a = record { few = λ l ws. a.few (l + 0) ws; gates = λ l ws h. a.gates (l + 0) ws h }

pub wanting_fresh : {n : ℕ} (f : ℕ → Part) → ((x : ℕ) → IsWanting n (f x)) → IsWanting n (with_fresh f)
wanting_fresh f h = record { few = λ l ws. (h l).few (suc l) ws; gates = λ l ws g. (h l).gates (suc l) ws g }

pub wanting_if : {n : ℕ} (b : Bool) (p q : Part) → IsWanting n p → IsWanting n q → IsWanting n (if b then p else q)
wanting_if true p q a b = a
wanting_if false p q a b = b

-- ---- calls

length_one_more : (ws : List Wanted) (w : Wanted) → length (ws ++ w ∷ []) ≡ suc (length ws)
length_one_more [] w = refl
length_one_more (x ∷ ws) w = ap suc (length_one_more ws w)

-- a name of another module, or an intrinsic of the system
pub wanting_want : (x : List ℕ) (gate : Bool) → (if gate then is_some (intrinsic_named x) else true) ≡ true → IsWanting 1 (call_wanted x gate)
wanting_want x gate known = record { few = λ l ws. few ws (position (is_wanted x gate) ws); gates = λ l ws h. gates ws (position (is_wanted x gate) ws) h }
  where
    few : (ws : List Wanted) (o : Option ℕ) → length (if is_some o then ws else ws ++ record { name = x; gate = gate } ∷ []) ≤ length ws + 1
    few ws (Some i) = same_or_more (length ws) 1
    few ws None = let one = length_one_more ws (record { name = x; gate = gate }) in omega arith

    gates : (ws : List Wanted) (o : Option ℕ) → list_all names_gate ws ≡ true
        → list_all names_gate (if is_some o then ws else ws ++ record { name = x; gate = gate } ∷ []) ≡ true
    gates ws (Some i) h = h
    gates ws None h =
        list_all-append names_gate ws (record { name = x; gate = gate } ∷ [])
        ∙ and_from (list_all names_gate ws) (list_all names_gate (record { name = x; gate = gate } ∷ [])) h
        (and_from (if gate then is_some (intrinsic_named x) else true) true known refl)

pub wanting_name : (x : List ℕ) → IsWanting 1 (call_wanted x false)
wanting_name x = wanting_want x false refl

pub wanting_gate : (x : List ℕ) → is_some (intrinsic_named x) ≡ true → IsWanting 1 (call_wanted x true)
wanting_gate x known = wanting_want x true known
