-- A run of two harts under all four policies, in which each policy has something to do.
use Rattle.std.specs.Prelude.{ℕ, true, false, List, [], ◌∷◌, ◌++◌, map}
use Rattle.image_format.specs.Picture.{Picture}
use Rattle.image_format.specs.declared.version.Version.TheVariants.{One}
use Rattle.engine_trait.specs.Events.{Event}
use Rattle.engine_trait.specs.Runs.{turn}
use Rattle.policy_choice.specs.All.{AllTag}
use Rattle.policy_choice.specs.declared.basis.Basis.{Basis}
use Rattle.policy_trait.specs.Sets.{set_of}
use Rattle.seal_runs.specs.KeyBook.{KeyBook}
use Rattle.comp_runs.specs.OwnerBook.{Owned}
use Rattle.flow_runs.specs.EdgeWalk.{Visit}
use Rattle.heap_runs.specs.BlockBook.{BlockBook}
use Rattle.run_props.specs.Safe.{run_of}

abbrev pub all_four : Basis
all_four = record { choice = record { seal = true; comp = true; flow = true; heap = true; secret = false } }

-- Hart 0, in compartment 0, from 00000000 on: it makes a key, seals a value and unseals it; takes a block, keeps the block's
-- pointer in it, and gives it back; lets compartment 1 write a word; and jumps by register along the one edge.
abbrev pub first_words : List ℕ
first_words =
    16779411 ∷  -- 00000000 make a key
    115 ∷  -- 00000004 a0 is key 0
    328851 ∷  -- 00000008 kept in s1
    7341331 ∷  -- 0000000C the value
    296339 ∷  -- 00000010 the key
    17827987 ∷  -- 00000014 seal
    115 ∷  -- 00000018 a0 is 7, sealed by key 0
    18876563 ∷  -- 0000001C unseal
    115 ∷  -- 00000020 a0 is 7
    4195603 ∷  -- 00000024 four bytes
    50333843 ∷  -- 00000028 malloc
    115 ∷  -- 0000002C a0 is a pointer to block 0
    10821667 ∷  -- 00000030 the block holds its own pointer
    337283 ∷  -- 00000034 which is read again
    51382419 ∷  -- 00000038 free
    115 ∷  -- 0000003C block 0 is no more live
    234882323 ∷  -- 00000040 a word
    1050003 ∷  -- 00000044 one word
    1050131 ∷  -- 00000048 compartment 1
    35653779 ∷  -- 0000004C let write
    115 ∷  -- 00000050 compartment 1 may write the word
    100663955 ∷  -- 00000054 where the jump goes
    164071 ∷  -- 00000058 labelled 1
    115 ∷  -- 0000005C jumped over
    1299 ∷  -- 00000060 labelled 2
    2195 ∷  -- 00000064 exit
    115 ∷ []  -- 00000068 hart 0 exits

-- Hart 1, in compartment 1, behind it: it stores into that word.
abbrev pub second_words : List ℕ
second_words =
    9437843 ∷  -- 0000006C a value
    240132131 ∷  -- 00000070 into compartment 0's word
    1299 ∷  -- 00000074 the code
    2195 ∷  -- 00000078 exit
    115 ∷ []  -- 0000007C hart 1 exits

-- 256 bytes of memory with a heap region of two words at 000000D0; all words of the program are code
abbrev pub image : Picture
image = record {
  version = One;
  ram = 256;
  heap_base = 208;
  heap_bytes = 8;
  entries = 0 ∷ 108 ∷ [];
  segments = record { address = 0; words = first_words ++ second_words } ∷ [];
  code = record { address = 0; words = 32 } ∷ [];
  labels = record { address = 88; id = 1 } ∷ record { address = 96; id = 2 } ∷ [];
  edges = record { source = 1; target = 2 } ∷ [];
  compartments = record { range = record { address = 108; words = 5 }; owner = 1; into = 0; write = 0 } ∷ [];
}

-- whose turn it is: hart 1 has its first while hart 0 seals, and then they take turns
abbrev pub harts : List ℕ
harts = 0 ∷ 0 ∷ 0 ∷ 1 ∷ 0 ∷ 0 ∷ 0 ∷ 0 ∷ 0 ∷ 0 ∷ 0 ∷ 0 ∷ 0 ∷ 0 ∷ 0 ∷ 0 ∷ 0 ∷ 0 ∷ 0 ∷ 0 ∷ 0 ∷ 0 ∷ 1 ∷ 0 ∷ 1 ∷ 0 ∷ 1 ∷ 0 ∷ 1 ∷ 0 ∷ 0 ∷ []

abbrev pub events : List (Event AllTag)
events = (run_of all_four image (map turn harts)).events

-- ---- what the books hold at its end

-- key 0 was made, and sealed 7
abbrev pub keys : KeyBook
keys = record { made = 0 ∷ []; pairs = (0, 7) ∷ [] }

-- the word at 000000E0 is compartment 0's, and compartment 1 may write it
abbrev pub shared : Owned
shared = record { owner = 0; into = set_of 0; write = set_of 2 }

-- where hart 1 was
abbrev pub second_walk : List Visit
second_walk =
    record { address = 108; word = 9437843 } ∷ record { address = 112; word = 240132131 } ∷ record { address = 116; word = 1299 } ∷
    record { address = 120; word = 2195 } ∷ record { address = 124; word = 115 } ∷ []

-- hart 0's jump by register, and where it went
abbrev pub jump : Visit
jump = record { address = 88; word = 164071 }

abbrev pub landing : Visit
landing = record { address = 96; word = 1299 }

-- block 0, of one word, was handed out and taken back
abbrev pub blocks : BlockBook
blocks = record { block = record { number = 0; base = 208; words = 1 }; is_live = false } ∷ []
