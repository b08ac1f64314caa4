use Rattle.rowan_builder.proofs.CacheLemmas.{first_seen-Contains, first_seen-once}
use Rattle.rowan_builder.proofs.CacheLemmas.{first_seen-continues, first_seen-push}
use Rattle.rowan_builder.proofs.laws.cache_keeps_first_seen.Goals as goal

pub returns-clause-members : goal.returns-clause-members
returns-clause-members c = first_seen-Contains

pub returns-clause-once : goal.returns-clause-once
returns-clause-once c = first_seen-once

pub returns-clause-continues : goal.returns-clause-continues
returns-clause-continues c = first_seen-continues

pub returns-clause-one_more : goal.returns-clause-one_more
returns-clause-one_more c = first_seen-push
