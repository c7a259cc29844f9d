use Rattle.std.proofs.Common.{[], refl}
use Rattle.seg_words.specs.Types.{FIRST_GATE}
use Rattle.log_frame.proofs.Laws.{formatted, head_is, walks_from, walks_once}
use Rattle.log_frame.proofs.Spelled.{spelled_from}
use Rattle.log_frame.proofs.spelling.a_log_has_one_spelling.Goals as goal

pub returns-clause-head : goal.returns-clause-head
returns-clause-head c shape groups bytes log = (formatted shape groups bytes log, head_is shape groups bytes log)

pub returns-clause-found : goal.returns-clause-found
returns-clause-found c shape groups bytes log = walks_from shape [] groups bytes FIRST_GATE log refl

pub returns-clause-once : goal.returns-clause-once
returns-clause-once c bytes at first second one other walks again = walks_once first second bytes at one other walks again

pub returns-clause-spelled : goal.returns-clause-spelled
returns-clause-spelled c bytes at end groups are walks = spelled_from groups bytes at end are walks
