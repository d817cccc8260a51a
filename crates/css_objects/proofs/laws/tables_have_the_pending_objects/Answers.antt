use Rattle.css_objects.proofs.Currents.{current_pending, table_pending}
use Rattle.css_objects.proofs.Followed.{table_version, reads_follow}
use Rattle.css_objects.proofs.laws.tables_have_the_pending_objects.Goals as goal

pub returns-clause-current : goal.returns-clause-current
returns-clause-current c = current_pending

pub returns-clause-table : goal.returns-clause-table
returns-clause-table c = table_pending

pub returns-clause-versions : goal.returns-clause-versions
returns-clause-versions c = table_version

pub returns-clause-reads : goal.returns-clause-reads
returns-clause-reads c = reads_follow
