-- Which calls of a fake fail.
use Rattle.std.specs.Prelude.{ℕ, ◌≡◌, ◌⊎◌, max, List, Contains}
use Rattle.outside.specs.Causes.{one_more}
use Rattle.outside.specs.declared.schedule.Failing.{Failing}
use Rattle.outside.specs.declared.schedule.Failing.TheVariants.{Call, Of}
use Rattle.outside.specs.declared.schedule.Listed.{Listed}
use Rattle.outside.specs.declared.schedule.Made.{Made}
use Rattle.outside.specs.declared.schedule.Method.{Method}
use Rattle.outside.specs.declared.schedule.Method.TheVariants.{Open, ReadAt, Create, Grow, WriteAt, Append, DraftRead}
use Rattle.outside.specs.declared.schedule.Method.TheVariants.{Publish, Take, Put}

-- the number of calls of a method
abbrev pub number_of : Made → Method → ℕ
number_of made Open = made.«open»
number_of made ReadAt = made.read_at
number_of made Create = made.create
number_of made Grow = made.grow
number_of made WriteAt = made.write_at
number_of made Append = made.append
number_of made DraftRead = made.draft_read
number_of made Publish = made.publish
number_of made Take = made.take
number_of made Put = made.put

-- one more call of a method
abbrev pub with_call : Made → Method → Made
with_call made Open = record made { all = one_more made.all; «open» = one_more made.«open» }
with_call made ReadAt = record made { all = one_more made.all; read_at = one_more made.read_at }
with_call made Create = record made { all = one_more made.all; create = one_more made.create }
with_call made Grow = record made { all = one_more made.all; grow = one_more made.grow }
with_call made WriteAt = record made { all = one_more made.all; write_at = one_more made.write_at }
with_call made Append = record made { all = one_more made.all; append = one_more made.append }
with_call made DraftRead = record made { all = one_more made.all; draft_read = one_more made.draft_read }
with_call made Publish = record made { all = one_more made.all; publish = one_more made.publish }
with_call made Take = record made { all = one_more made.all; take = one_more made.take }
with_call made Put = record made { all = one_more made.all; put = one_more made.put }

-- no call was made
abbrev pub no_call : Made
no_call = record {
  all = 0;
  «open» = 0;
  read_at = 0;
  create = 0;
  grow = 0;
  write_at = 0;
  append = 0;
  draft_read = 0;
  publish = 0;
  take = 0;
  put = 0;
}

-- the greater number of two, each by itself
abbrev pub later_of : Made → Made → Made
later_of a b = record {
  all = max a.all b.all;
  «open» = max a.«open» b.«open»;
  read_at = max a.read_at b.read_at;
  create = max a.create b.create;
  grow = max a.grow b.grow;
  write_at = max a.write_at b.write_at;
  append = max a.append b.append;
  draft_read = max a.draft_read b.draft_read;
  publish = max a.publish b.publish;
  take = max a.take b.take;
  put = max a.put b.put;
}

-- the calls that are to fail
abbrev pub failing_of : Listed → List Failing
failing_of schedule = schedule.failing

-- the calls that were made
abbrev pub calls_made : Listed → Made
calls_made schedule = schedule.made

-- how many of them failed
abbrev pub faults_of : Listed → ℕ
faults_of schedule = schedule.faults

-- the list has the last call, which was one of this method, by its number among all or among those of the method
abbrev pub IsPlanned : List Failing → Made → Method → Type 0
IsPlanned failing made method = Contains failing (Call made.all) ⊎ Contains failing (Of method (number_of made method))

-- the next call is to fail, if it is one of this method
abbrev pub Plans : Listed → Method → Type 0
Plans schedule method = IsPlanned (failing_of schedule) (with_call (calls_made schedule) method) method

-- a view's schedule has the folder's list, and counts on from the folder's numbers
pub record Forked (folder view : Listed) : Type 0 where
  pub list : failing_of view ≡ failing_of folder
  pub numbers : calls_made view ≡ calls_made folder

-- the folder's numbers move to the view's where those are greater, and its list stays
pub record Moved (before view now : Listed) : Type 0 where
  pub list : failing_of now ≡ failing_of before
  pub numbers : calls_made now ≡ later_of (calls_made before) (calls_made view)
