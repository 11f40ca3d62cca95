-- A loop that fills a row place by place, each with f of what stands there in another: as far as it has come, one place more, all of it.
use Rattle.std.proofs.Common.{◌≡◌, sym, ◌∙◌, inl, inr, List, map, ℕ, ◌+◌, ◌≤◌, ◌<◌, arith, length, get_or, set, length-set, get_or-set_same, get_or-set_other, ext_get_or}
use Rattle.std.proofs.Math.ListN.{length-map, get_or-map}
use Rattle.rules.proofs.Each.{same_or_not}

-- the first k of the n places of ys are filled from xs; `none` stands where xs has no place
pub record Filled {A B : Type 0} (f : A → B) (none : A) (xs : List A) (n k : ℕ) (ys : List B) : Type 0 where
  pub places : length ys ≡ n
  pub so_far : (j : ℕ) → j < k → get_or ys j (f none) ≡ f (get_or xs j none)

module _ {A B : Type 0} (f : A → B) (none : A) (xs : List A) (n k : ℕ) (ys : List B) where
  pub filled_more : k < n → Filled f none xs n k ys → Filled f none xs n (k + 1) (set ys k (f (get_or xs k none)))
  filled_more l a = record {
    places = length-set ys k _ ∙ a.places;
    so_far = λ j m. elim (same_or_not j k) [
      | inl e ↦ rw e (get_or-set_same ys k _ (f none) (let p = a.places in omega arith))
      | inr d ↦ get_or-set_other ys k j _ (f none) d ∙ a.so_far j (omega arith)
    ];
  }

  pub filled_all : length xs ≡ n → n ≤ k → Filled f none xs n k ys → ys ≡ map f xs
  filled_all w l a =
      ext_get_or (f none) ys (map f xs) (a.places ∙ sym w ∙ sym (length-map xs f))
      (λ j m. a.so_far j (let p = a.places in omega arith) ∙ sym (get_or-map f xs j none))
