-- In the two formats that hold no immediate the format's own clause is the answer.
use Rattle.std.proofs.Common.{arith}
use Rattle.rv_decode.proofs.FormatLemmas.{fence_word_is}
use Rattle.rv_decode.proofs.encoding.table_word.Goals as goal

pub returns-in-Slli : goal.returns-in-Slli
returns-in-Slli c = rw c.in-Slli.is c.shift_word.ensures

pub returns-in-Srli : goal.returns-in-Srli
returns-in-Srli c = rw c.in-Srli.is c.shift_word-in-Srli.ensures

pub returns-in-Srai : goal.returns-in-Srai
returns-in-Srai c = rw c.in-Srai.is c.shift_word-in-Srai.ensures

pub returns-in-Add : goal.returns-in-Add
returns-in-Add c = rw c.in-Add.is c.register_word.ensures

pub returns-in-Sub : goal.returns-in-Sub
returns-in-Sub c = rw c.in-Sub.is c.register_word-in-Sub.ensures

pub returns-in-Sll : goal.returns-in-Sll
returns-in-Sll c = rw c.in-Sll.is c.register_word-in-Sll.ensures

pub returns-in-Slt : goal.returns-in-Slt
returns-in-Slt c = rw c.in-Slt.is c.register_word-in-Slt.ensures

pub returns-in-Sltu : goal.returns-in-Sltu
returns-in-Sltu c = rw c.in-Sltu.is c.register_word-in-Sltu.ensures

pub returns-in-Xor : goal.returns-in-Xor
returns-in-Xor c = rw c.in-Xor.is c.register_word-in-Xor.ensures

pub returns-in-Srl : goal.returns-in-Srl
returns-in-Srl c = rw c.in-Srl.is c.register_word-in-Srl.ensures

pub returns-in-Sra : goal.returns-in-Sra
returns-in-Sra c = rw c.in-Sra.is c.register_word-in-Sra.ensures

pub returns-in-Or : goal.returns-in-Or
returns-in-Or c = rw c.in-Or.is c.register_word-in-Or.ensures

pub returns-in-And : goal.returns-in-And
returns-in-And c = rw c.in-And.is c.register_word-in-And.ensures

pub returns-in-Mul : goal.returns-in-Mul
returns-in-Mul c = rw c.in-Mul.is c.register_word-in-Mul.ensures

pub returns-in-Mulh : goal.returns-in-Mulh
returns-in-Mulh c = rw c.in-Mulh.is c.register_word-in-Mulh.ensures

pub returns-in-Mulhsu : goal.returns-in-Mulhsu
returns-in-Mulhsu c = rw c.in-Mulhsu.is c.register_word-in-Mulhsu.ensures

pub returns-in-Mulhu : goal.returns-in-Mulhu
returns-in-Mulhu c = rw c.in-Mulhu.is c.register_word-in-Mulhu.ensures

pub returns-in-Div : goal.returns-in-Div
returns-in-Div c = rw c.in-Div.is c.register_word-in-Div.ensures

pub returns-in-Divu : goal.returns-in-Divu
returns-in-Divu c = rw c.in-Divu.is c.register_word-in-Divu.ensures

pub returns-in-Rem : goal.returns-in-Rem
returns-in-Rem c = rw c.in-Rem.is c.register_word-in-Rem.ensures

pub returns-in-Remu : goal.returns-in-Remu
returns-in-Remu c = rw c.in-Remu.is c.register_word-in-Remu.ensures

pub returns-in-Fence : goal.returns-in-Fence
returns-in-Fence c =
    rw (c.in-Fence.is, ← c.word.ensures.value) (fence_word_is c.word.result (omega arith) c.word.ensures.opcode c.word.ensures.f3)
