-- The labels of a segment, the own entries' and those of the names that it wants.
use Rattle.std.proofs.Common.{◌≡◌, ℕ, List, [], ◌∷◌, ◌++◌, map, refl, sym, ap, ◌∙◌}
use Rattle.std.proofs.lemmas.List.{map-append}
use Rattle.hp_instr.specs.Labels.{label_bits}
use Rattle.spl_branch.specs.declared.modules.Module.{Module}
use Rattle.mpe_segmenter.specs.declared.wants.Key.{Key}
use Rattle.mpe_segmenter.specs.Entries.{Own, owns, Wanted, Table, table_of}
use Rattle.mpe_segmenter.specs.Segments.{own_label, own_bits, wanted_label, labels_of}
use Rattle.mpe_segmenter.specs.PlaceViews.{seen}

own_words : (os : List Own) → map own_bits os ≡ map label_bits (map own_label os)
own_words [] = refl
own_words (o ∷ os) = ap (λ ws. own_bits o ∷ ws) (own_words os)

-- the words of the labels of names that are wanted
pub wanted_words : (ts : List Table) (ks : List Key) (ws : List Wanted) → map seen ks ≡ ws → map (λ k. label_bits (wanted_label ts (seen k))) ks ≡ map label_bits (map (wanted_label ts) ws)
wanted_words ts ks ws e = along ks ∙ ap (λ (vs : List Wanted). map label_bits (map (wanted_label ts) vs)) e where
  along : (ks : List Key) → map (λ k. label_bits (wanted_label ts (seen k))) ks ≡ map label_bits (map (wanted_label ts) (map seen ks))
  along [] = refl
  along (k ∷ ks) = ap (λ vs. label_bits (wanted_label ts (seen k)) ∷ vs) (along ks)

-- both are the labels of the segment
pub labels_are : (ts : List Table) (ms : List Module) (own : List ℕ) → own ≡ map own_bits (owns 0 ms)
    → own ++ map label_bits (map (wanted_label ts) (table_of ms).wanted) ≡ map label_bits (labels_of ts (table_of ms))
labels_are ts ms own e =
    ap (λ (ws : List ℕ). ws ++ map label_bits (map (wanted_label ts) (table_of ms).wanted)) (e ∙ own_words (owns 0 ms))
    ∙ sym (map-append label_bits (map own_label (owns 0 ms)) (map (wanted_label ts) (table_of ms).wanted))
