use Rattle.link_audit.proofs.FirstDifferences.{json_once, words_once}
use Rattle.link_audit.proofs.laws.first_differences.Goals as goal

pub returns-clause-words : goal.returns-clause-words
returns-clause-words c = words_once

pub returns-clause-json : goal.returns-clause-json
returns-clause-json c = json_once
