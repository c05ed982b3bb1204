use Rattle.monitor_calls.proofs.JobLemmas.{is_job, job_given, job_places, job_served, refuses_service, service_refuses, service_spent, spent_service}
use Rattle.monitor_calls.proofs.law.service_law.Goals as goal

pub returns-clause-job : goal.returns-clause-job
returns-clause-job g c s word_at tag_at number arguments pc job =
    let m = g.P.Policy.model in
    (is_job m s word_at tag_at number arguments pc job, job_served m s word_at tag_at number arguments pc job)

pub returns-clause-refused : goal.returns-clause-refused
returns-clause-refused g c s word_at tag_at number arguments pc refused =
    let m = g.P.Policy.model in
    (service_refuses m s word_at tag_at number arguments pc refused, refuses_service m s word_at tag_at number arguments pc refused)

pub returns-clause-spent : goal.returns-clause-spent
returns-clause-spent g c s word_at tag_at number arguments pc =
    let m = g.P.Policy.model in
    (service_spent m s word_at tag_at number arguments pc, spent_service m s word_at tag_at number arguments pc)

pub returns-clause-given : goal.returns-clause-given
returns-clause-given g c s word_at tag_at number arguments pc job can e =
    job_given g.P.Policy.model s word_at tag_at number arguments pc g.P.Policy.holds g.met.P.Policy.lawful job can e

pub returns-clause-places : goal.returns-clause-places
returns-clause-places g c s word_at tag_at number arguments pc job can valid e =
    job_places g.P.Policy.model s word_at tag_at number arguments pc g.P.Policy.holds g.met.P.Policy.lawful job can valid e
