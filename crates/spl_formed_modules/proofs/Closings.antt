-- Code that ends with a word, so that each mark in it stands before its end: put together of parts.
use Rattle.std.proofs.Common.{◌≡◌, ◌⊎◌, inl, inr, ℕ, suc, ◌+◌, Bool, true, false, if◌then◌else◌, List, [], ◌∷◌, ◌++◌, refl, sym, ap, ◌∙◌, append_assoc, append-nil}
use Rattle.mpe_segmenter.specs.hp_instr.declared.instruction.Instr.TheVariants as i
use Rattle.mpe_segmenter.specs.spl_branch.declared.pieces.Piece.{Piece}
use Rattle.mpe_segmenter.specs.spl_branch.declared.pieces.Piece.TheVariants.{Do, Call}
use Rattle.spl_wanted_names.specs.spl_code.Parts.{Part, Wanted, pieces, ◌⨟◌, with_fresh}

-- a piece that takes a word of its own, behind which none is left half
abbrev pub closes : Piece → Bool
closes (Do (i.Control which n)) = true
closes (Call by wanted index) = true
closes x = false

-- the last of some pieces is such a one
pub record Closed (ps : List Piece) : Type 0 where
  pub front : List Piece
  pub last : Piece
  pub is : ps ≡ front ++ last ∷ []
  pub closes_it : closes last ≡ true

pub closed_behind : (ps qs : List Piece) → Closed qs → Closed (ps ++ qs)
closed_behind ps qs c = record {
  front = ps ++ c.front;
  last = c.last;
  is = ap (λ xs. ps ++ xs) c.is ∙ sym (append_assoc ps c.front (c.last ∷ []));
  closes_it = c.closes_it;
}

-- whatever stands before a part
pub record Closing (part : Part) : Type 0 where
  pub closed : (l : ℕ) (ws : List Wanted) → Closed (part l ws).pieces

-- or there is nothing
pub record Ending (part : Part) : Type 0 where
  pub ends : (l : ℕ) (ws : List Wanted) → ((part l ws).pieces ≡ []) ⊎ Closed (part l ws).pieces

pub closing_then : (p q : Part) → Closing q → Closing (p ⨟ q)
closing_then p q c = record {
  closed = λ l ws. closed_behind (p l ws).pieces (q (l + (p l ws).marks) (p l ws).wants).pieces (c.closed (l + (p l ws).marks) (p l ws).wants);
}

pub closing_fresh : (f : ℕ → Part) → ((x : ℕ) → Closing (f x)) → Closing (with_fresh f)
closing_fresh f h = record { closed = λ l ws. (h l).closed (suc l) ws }

pub ending_closing : {p : Part} → Closing p → Ending p
ending_closing {p} c = record { ends = λ l ws. inr (c.closed l ws) }

pub ending_nothing : Ending (pieces [])
ending_nothing = record { ends = λ l ws. inl refl }

pub ending_then : {p q : Part} → Ending p → Ending q → Ending (p ⨟ q)
ending_then {p} {q} a b = record {
  ends = λ l ws. both (p l ws).pieces (q (l + (p l ws).marks) (p l ws).wants).pieces (a.ends l ws) (b.ends (l + (p l ws).marks) (p l ws).wants);
}
  where
    both : (ps qs : List Piece) → (ps ≡ []) ⊎ Closed ps → (qs ≡ []) ⊎ Closed qs → ((ps ++ qs) ≡ []) ⊎ Closed (ps ++ qs)
    both ps qs x (inr c) = inr (closed_behind ps qs c)
    both ps qs (inl e) (inl f) = inl (ap (λ xs. xs ++ qs) e ∙ f)
    both ps qs (inr c) (inl f) = inr (record { front = c.front; last = c.last; is = ap (λ xs. ps ++ xs) f ∙ append-nil ps ∙ c.is; closes_it = c.closes_it })

pub ending_if : (b : Bool) (p q : Part) → Ending p → Ending q → Ending (if b then p else q)
ending_if true p q a b = a
ending_if false p q a b = b
