use Rattle.std.proofs.Common.{◌≡◌, ◌∙◌, get_or, min, fold, slice_range, rules}
use Rattle.steps.proofs.Laws.{least_fold}
use Rattle.steps.proofs.advancing.least.Goals as goal

pub returns : goal.returns
returns c =
    let es = c.args.timeouts.now in
    let r : c.fold.result ≡ fold (λ a e. min a e) (get_or es 0 0) (slice_range es 1 c.args.n) = search rules in
    r ∙ least_fold es c.args.n (search rules) (search rules)
