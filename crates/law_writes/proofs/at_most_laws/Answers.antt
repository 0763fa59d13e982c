use Rattle.law_writes.proofs.WritesAtMost.{word_free, word_mixed, word_byte, word_page}
use Rattle.law_writes.proofs.SingleWrites.{writes_change_theirs}
use Rattle.law_writes.proofs.at_most_laws.Goals as goal

pub returns : goal.returns
returns c = record {
  free = λ g image image' e value shape inside sets. word_free g image shape image' e value inside sets;
  mixed = λ g image image' e value shape inside sets. word_mixed g image shape image' e value inside sets;
  byte = λ g image image' p value shape inside sets. word_byte g image shape image' p value inside sets;
  page = λ g image image' p new shape inside whole sets. word_page g image shape image' p new inside whole sets;
  step = writes_change_theirs;
}
