use Rattle.std.proofs.Common.{get_or, refl, arith}
use Rattle.fields.specs.Split.{alike}
use Rattle.file.specs.Words.{kind_of, kind_words, index_from}
use Rattle.file.proofs.Words.{kind_byte, kind_short, kind_long, kind_other}
use Rattle.file.proofs.vocabulary.read_kind.Goals as goal

pub returns-in-M : goal.returns-in-M
unfolding kind_of kind_words index_from alike
returns-in-M c = kind_byte c.args.f.now 77 0 refl (omega arith) (omega arith) (omega arith)

pub returns-in-L : goal.returns-in-L
unfolding kind_of kind_words index_from alike
returns-in-L c = kind_byte c.args.f.now 76 1 refl (omega arith) (omega arith) (omega arith)

pub returns-in-F : goal.returns-in-F
unfolding kind_of kind_words index_from alike
returns-in-F c = kind_byte c.args.f.now 70 2 refl (omega arith) (omega arith) (omega arith)

pub returns-in-P : goal.returns-in-P
unfolding kind_of kind_words index_from alike
returns-in-P c = kind_byte c.args.f.now 80 3 refl (omega arith) (omega arith) (omega arith)

pub returns-in-E : goal.returns-in-E
unfolding kind_of kind_words index_from alike
returns-in-E c = kind_byte c.args.f.now 69 4 refl (omega arith) (omega arith) (omega arith)

pub returns-in-G : goal.returns-in-G
unfolding kind_of kind_words index_from alike
returns-in-G c = kind_byte c.args.f.now 71 5 refl (omega arith) (omega arith) (omega arith)

pub returns-in-S : goal.returns-in-S
unfolding kind_of kind_words index_from alike
returns-in-S c = kind_byte c.args.f.now 83 6 refl (omega arith) (omega arith) (omega arith)

pub returns-in-T : goal.returns-in-T
unfolding kind_of kind_words index_from alike
returns-in-T c = kind_byte c.args.f.now 84 7 refl (omega arith) (omega arith) (omega arith)

pub returns-in-V : goal.returns-in-V
unfolding kind_of kind_words index_from alike
returns-in-V c = kind_byte c.args.f.now 86 8 refl (omega arith) (omega arith) (omega arith)

pub returns-in-K : goal.returns-in-K
unfolding kind_of kind_words index_from alike
returns-in-K c = kind_byte c.args.f.now 75 9 refl (omega arith) (omega arith) (omega arith)

pub returns-in_default : goal.returns-in_default
returns-in_default c = kind_short c.args.f.now (omega arith)

pub returns-in_default-2 : goal.returns-in_default-2
returns-in_default-2 c =
    let f = c.args.f.now in
    kind_other f (omega arith) (omega arith) (get_or f 0 0) refl
    (λ e. omega arith) (λ e. omega arith) (λ e. omega arith) (λ e. omega arith) (λ e. omega arith)
    (λ e. omega arith) (λ e. omega arith) (λ e. omega arith) (λ e. omega arith) (λ e. omega arith)

pub returns-in_default-3 : goal.returns-in_default-3
returns-in_default-3 c = kind_long c.args.f.now (omega arith)
