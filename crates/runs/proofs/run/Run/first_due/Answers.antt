use Rattle.rules.proofs.Meaning.{table_meets}
use Rattle.runs.proofs.Laws.{quiet_beside, quiet_of, first_found}
use Rattle.runs.proofs.run.Run.first_due.Goals as goal

pub first_due-requires : goal.first_due-requires
first_due-requires c =
    let r = c.args.self.now in
    let m = table_meets r.table r.table_fits in
    (c.requires.0, m.heads, quiet_beside r.state r.due r.beside _ c.requires.1)

pub returns-clause-first : goal.returns-clause-first
returns-clause-first c = let r = c.args.self.now in first_found r.state r.due r.beside _ _ c.first_due.ensures.first

pub returns-clause-quiet : goal.returns-clause-quiet
returns-clause-quiet c = let r = c.args.self.now in quiet_of r.state r.due r.beside _ c.first_due.ensures.quiet
