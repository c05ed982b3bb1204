-- A policy and secrecy beside it, in two worlds that differ in secret values alone.
use Rattle.std.specs.Prelude.{◌≡◌, Bool}
use Rattle.secrecy_policy.specs.Secrecy.{SecretState, is_open}
use Rattle.secrecy_policy.specs.declared.tag.SecretTag.{SecretTag}

-- a pair is as open as its part of secrecy
abbrev pub shows : {T : Type 0} → T × SecretTag → Bool
shows tag = is_open tag.1

-- any two values of secrecy: which bytes were answered is told by no tag
abbrev pub AnyTwo : SecretState → SecretState → Type 0
AnyTwo s t = Unit {0}

-- the other policy's value is the same
abbrev pub SameBeside : {S : Type 0} → S × SecretState → S × SecretState → Type 0
SameBeside s t = (t.0 ≡ s.0) × AnyTwo s.1 t.1
