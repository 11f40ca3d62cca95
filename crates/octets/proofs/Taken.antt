-- The places that hold what is read, while they are read one after the other.
use Rattle.std.proofs.Common.{◌≡◌, sym, ap, ◌∙◌, ℕ, suc, ◌+◌, ◌-◌, ◌≤◌, ◌<◌, List, ◌++◌, length, get_or, take, drop, set, replicate, length-append, length-set, length-take-le, get_or-set_same, get_or-set_other, below_more, arith}
use Rattle.std.proofs.lemmas.Grind.{common_steps}
use Rattle.std.proofs.lemmas.List.{length-replicate, drop-replicate, get_or_append_left, get_or-append_right}
use Rattle.rules.specs.Limits.{max_heads}
use Rattle.octets.specs.Fields.{places}
use Rattle.octets.proofs.Back.{places_are}

-- the first n places of which the first k are read: these hold f's
pub record Taken {A : Type 0} (d : A) (f : ℕ → A) (n k : ℕ) (part : List A) : Type 0 where
  pub long : length part ≡ n
  pub so_far : (j : ℕ) → j < k → get_or part j d ≡ f (suc j)

module _ {A : Type 0} (d : A) (f : ℕ → A) (n : ℕ) (m : n ≤ max_heads) where
  pub taken_none : Taken d f n 0 (take n (replicate max_heads d))
  taken_none = record { long = omega (arith, length-take-le n (replicate max_heads d), length-replicate max_heads d); so_far = λ j h. absurd (omega arith) }

  pub taken_more : (k : ℕ) (part : List A) (x : A) → k < n → Taken d f n k part → x ≡ f (suc k) → Taken d f n (k + 1) (set part k x)
  taken_more k part x h t e = record {
    long = length-set part k x ∙ t.long;
    so_far = below_more _ _ (λ j l. get_or-set_other part k j x d (λ q. omega arith) ∙ t.so_far j l) (get_or-set_same part k x d (omega (arith, t.long)) ∙ e);
  }

  -- behind them are the places that are left as they were
  pub taken_all : (k : ℕ) (part : List A) → n ≤ k → Taken d f n k part → part ++ drop n (replicate max_heads d) ≡ places d f n
  taken_all k part h t =
      let rest = replicate (max_heads - n) d in
      ap (λ w. part ++ w) (drop-replicate n max_heads d)
      ∙ sym (places_are d f n (part ++ rest) (omega (arith, t.long, length-append part rest, length-replicate (max_heads - n) d)) m
      (λ j l. sym (get_or_append_left part rest d j (omega (arith, t.long)) ∙ t.so_far j (omega arith)))
      (λ j l. get_or-append_right part rest n j d t.long l ∙ grind (arith, common_steps)))
