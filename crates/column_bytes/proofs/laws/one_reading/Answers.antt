use Rattle.std.proofs.Common.{arith}
use Rattle.column_bytes.proofs.Reading.{one_list, list_counted}
use Rattle.column_bytes.proofs.laws.one_reading.Goals as goal

pub returns-clause-one : goal.returns-clause-one
returns-clause-one c = one_list

pub returns-clause-count : goal.returns-clause-count
returns-clause-count c = list_counted

pub returns-clause-some : goal.returns-clause-some
returns-clause-some c = λ bytes n cells h. let count = h.count in let some = h.is.header.fields.some in omega arith

pub returns-clause-few : goal.returns-clause-few
returns-clause-few c = λ bytes n cells h. let count = h.count in let few = h.is.header.fields.few in omega arith
