use Rattle.std.proofs.Common.{rules}
use Rattle.octets.proofs.Cases.{answered}
use Rattle.table_images.specs.TableImage.{blank_table}
use Rattle.table_images.proofs.read.Goals as goal

pub returns : goal.returns
returns c = answered c.take.result c.map_err.result _ _ blank_table c.take.ensures c.map_err.ensures.cases (λ why e k. search rules)
