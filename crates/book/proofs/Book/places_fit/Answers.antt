use Rattle.std.proofs.Common.{◌∙◌, ◌≡◌, ◌≤◌, ◌+◌, eqb, take, ap, rules, arith}
use Rattle.std.specs.List.{list_any}
use Rattle.std.proofs.lemmas.Iterator.{YieldsList-from_slice}
use Rattle.std.proofs.lemmas.Iterator.Adapters.{serves_from_places}
use Rattle.std.proofs.lemmas.Iterator.Consumers.{YieldsList-from_enumerate}
use Rattle.std.proofs.lemmas.Iterator.Search.{all_from_yields_List}
use Rattle.std.proofs.lemmas.List.FromFn.{length-enumerate_from, get_or-enumerate_from}
use Rattle.book.specs.Book.{entry_fits}
use Rattle.book.proofs.Rules.{places_row}
use Rattle.book.proofs.Book.places_fit.Goals as goal

pub all-requires-clause-callable : goal.all-requires-clause-callable
all-requires-clause-callable c = serves_from_places (YieldsList-from_enumerate (YieldsList-from_slice c.args.self.now.places (cc)) (cc)) (λ x q r. search rules) (λ x k l e.
    let g = get_or-enumerate_from 0 c.args.self.now.places k (x.0, x.1.now) (omega (arith, length-enumerate_from 0 c.args.self.now.places)) in
    let i : x.0 ≡ 0 + k = ap (λ p. p.0) e ∙ ap (λ p. p.0) g in
    let b : x.0 ≤ 256 = omega (arith, length-enumerate_from 0 c.args.self.now.places) in
    search rules)

pub returns : goal.returns
returns c =
    let b = c.args.self.now in
    let seen = all_from_yields_List (λ p. entry_fits b.given b.latest p.1 (list_any (λ n. eqb n p.1.number) (take p.0 c.numbers-numbers.result))) _ _ _ c.all.ensures.ran (YieldsList-from_enumerate (YieldsList-from_slice b.places (cc)) (cc)) (λ x r q k. search rules) in
    seen ∙ places_row b.given b.latest b.places _ c.numbers-numbers.ensures (search rules)
